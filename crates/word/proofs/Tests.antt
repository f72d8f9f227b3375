-- Two tests are the same test where each passes when the other does, a test of two things passes where both do, and a test of one of two
-- things fails where both do.
-- Assumes nothing.
use Rattle.std.proofs.Common.{◌≡◌, ℕ, ◌-◌, ◌<◌, ◌≤◌, Bool, true, false, ◌&&◌, ◌||◌, ltb, leb, sym, refl, ◌∙◌, true≢false, arith, ltb-true, lt-ltb, le-leb, leb-true}
use mathlib.Core.Bool.{false≢true}

pub same_test : (a b : Bool) → (a ≡ true → b ≡ true) → (b ≡ true → a ≡ true) → a ≡ b
same_test true b f g = sym (f refl)
same_test false true f g = g refl
same_test false false f g = refl

pub both_pass : (a b : Bool) → (a && b) ≡ true → (a ≡ true) × (b ≡ true)
both_pass true b e = (refl, e)
both_pass false b e = absurd (false≢true e)

pub both_fail : (a b : Bool) → (a || b) ≡ false → (a ≡ false) × (b ≡ false)
both_fail true b e = absurd (true≢false e)
both_fail false b e = (refl, e)

-- of two tests that do not both pass the first fails where the second passes
pub first_fails : (a b : Bool) → b ≡ true → (a && b) ≡ false → a ≡ false
first_fails true b h e = absurd (true≢false (sym h ∙ e))
first_fails false b h e = refl

pub leb_same : (a b c d : ℕ) → (a ≤ b → c ≤ d) → (c ≤ d → a ≤ b) → leb a b ≡ leb c d
leb_same a b c d f g = same_test (leb a b) (leb c d) (λ e. le-leb c d (f (leb-true a b e))) (λ e. le-leb a b (g (leb-true c d e)))

pub ltb-leb : (a b : ℕ) → 0 < b → ltb a b ≡ leb a (b - 1)
ltb-leb a b h =
    same_test (ltb a b) (leb a (b - 1)) (λ e. le-leb a (b - 1) (omega (arith, ltb-true a b e)))
    (λ e. lt-ltb a b (omega (arith, leb-true a (b - 1) e)))
