-- A rule and a word that are not refused: the width, the constants and the word are what the test of a word asks. Assumes nothing.
use mathlib.Core.Path.{◌≡◌, refl, sym, ap, ◌∙◌}
use mathlib.Core.Bool.{Bool, true, false, false≢true, ◌&&◌, cond}
use mathlib.Core.List.{[], ◌∷◌}
use Prim.Native.Nat.{ℕ, ◌≤◌}
use native.Mathlib.Omega.{arith}
use borrow.Author.Tests.{eq-eqb, leb-true, ne_eqb}
use lib.Dec.{eqb, leb}
use mir.Val.{bool_byte}
use Rattle.word.specs.Word.{IsWidth, top}
use Rattle.word.proofs.Tests.{both_pass}
use Rattle.rule.specs.declared.Rule.{Rule}
use Rattle.rule.specs.Meaning.{AllLawful, meets}
use Rattle.rule.specs.accept.Accept.{acceptable, every, refusal_of}
use Rattle.rule.proofs.accept.Accepted.{all_lawful}
use Rattle.outside.specs.handing.Handed.{number_of, weigh_number, weighed}
use Rattle.outside.proofs.handing.Rows.{as_number}

rows : (p t : Bool) (k : ℕ) (q : Bool) → eqb k 0 ≡ q → cond p (cond q (cond t 0 5) k) 2 ≡ 0 → (p ≡ true) × (q ≡ true) × (t ≡ true)
rows false t k q h e = absurd (omega arith)
rows true t k false h e = absurd (false≢true (sym h ∙ eq-eqb k 0 e))
rows true false k true h e = absurd (omega arith)
rows true true k true h e = (refl, refl, refl)

module _ (w : ℕ) (r : Rule) (x : ℕ) where
  pub fair : weigh_number w r x ≡ 0 → IsWidth w × ((x ≤ top w) × (r.c1 ≤ top w))
  unfolding weigh_number every acceptable AllLawful
  fair e =
      let (a, b, c) = rows (leb 1 w && leb w 64) (leb x (top w)) (refusal_of w r) (eqb (refusal_of w r) 0) refl e in
      let (low, high) = both_pass (leb 1 w) (leb w 64) a in
      let lawful = (all_lawful w (r ∷ []) (rw b refl)).0 in
      (record { low = leb-true 1 w low; high = leb-true w 64 high }, (leb-true x (top w) c, lawful.c1_word))

  pub refused_word : (weigh_number w r x ≡ 0 → ⊥) → 0 ≡ weighed w r x
  unfolding weighed
  refused_word n = rw (ne_eqb (weigh_number w r x) 0 n)

  pub weighed_word : weigh_number w r x ≡ 0 → (t : Bool) → t ≡ meets w r x → bool_byte t ≡ weighed w r x
  unfolding weighed
  weighed_word z t p = rw (eq-eqb (weigh_number w r x) 0 z) (as_number t ∙ ap number_of p)
