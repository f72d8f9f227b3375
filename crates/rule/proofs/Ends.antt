-- What it means that a run ends below the top word. Assumes nothing.
use mathlib.Core.Path.{◌≡◌, sym, ap, ◌∙◌}
use mathlib.Core.Bool.{Bool, true, false, not, ◌&&◌, ◌||◌}
use Prim.Native.Nat.{ℕ, suc}
use borrow.Author.Tests.{ne_eqb, not-true}
use Rattle.word.specs.Word.{top}
use Rattle.word.proofs.Tests.{both_pass}
use Rattle.rule.specs.declared.Rule.{Rule}
use Rattle.rule.specs.Meaning.{ends, meets}

pub ends_below : (w : ℕ) (r : Rule) (x : ℕ) → (x ≡ top w → ⊥) → ends w r x ≡ true → (meets w r x ≡ false) × (meets w r (suc x) ≡ true)
unfolding ends
ends_below w r x d e =
    let here = both_pass _ _ (sym (ap (λ (t : Bool). not (meets w r x) && (t || meets w r (suc x))) (ne_eqb x (top w) d)) ∙ e) in
    (not-true (meets w r x) here.0, here.1)
