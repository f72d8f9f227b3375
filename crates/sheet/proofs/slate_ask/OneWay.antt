-- No two ways out of asking on a slate go together: two outcomes have one reply and leave one buffer. Assumes nothing.
use mathlib.Core.Path.{◌≡◌, refl, sym, ap, ◌∙◌}
use mathlib.Core.List.{List, ◌++◌}
use Prim.Native.Nat.{ℕ, ◌*◌}
use native.Mathlib.Omega.{arith}
use lib.ListN.{drop}
use Rattle.chain.specs.Links.{numbers_of}
use Rattle.sheet.specs.declared.slate.Head.{Head}
use Rattle.sheet.proofs.slate.stepping.Refusing.{no_refusal, one_number}
use Rattle.sheet.specs.declared.slate_ask.Reply.{Reply}
use Rattle.sheet.specs.slate_ask.Reply.{refuses, replies}
use Rattle.sheet.specs.slate_ask.route.Asks.{Asks, chain_in}
use Rattle.sheet.specs.slate_ask.route.Asks.Asks.{none_fits, some_fit, unasked}

module _ {h : Head} {rows : List (List ℕ)} {b : List ℕ} where
  pub one_asking : {b₁ b₂ : List ℕ} {r₁ r₂ : Reply} → Asks h rows b b₁ r₁ → Asks h rows b b₂ r₂ → (r₁ ≡ r₂) × (b₁ ≡ b₂)
  one_asking (unasked p) (unasked q) = (ap refuses (one_number p q), refl)
  one_asking (unasked p) (some_fit e room z) = absurd (no_refusal e (λ l. omega arith) p)
  one_asking (unasked p) (none_fits e room z n l) = absurd (no_refusal e (λ l. omega arith) p)
  one_asking (some_fit e room z) (unasked q) = absurd (no_refusal e (λ l. omega arith) q)
  one_asking (none_fits e room z n l) (unasked q) = absurd (no_refusal e (λ l. omega arith) q)
  one_asking (some_fit e room z) (some_fit _ _ _) = (refl, refl)
  one_asking (some_fit e room z) (none_fits _ _ y n l) = absurd (z y)
  one_asking (none_fits e room z n l) (some_fit _ _ y) = absurd (y z)
  one_asking (none_fits e room z n l) (none_fits _ _ y m k) =
      let same = n ∙ sym m in
      (ap (replies 0 h.kept) same, l ∙ ap (λ (i : ℕ). numbers_of (chain_in h rows) ++ drop (3 * i) b) same ∙ sym k)
