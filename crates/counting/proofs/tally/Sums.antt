-- Words added up: quotient and remainder stand for one number, which a carry keeps, and a stretch of words has as many with the bits as
-- there are below its last word and not below its first, and the last one if it has them. Assumes nothing.
use mathlib.Core.Path.{◌≡◌, ap, ◌∙◌}
use mathlib.Core.Bool.{Bool, true, false}
use Prim.Native.Nat.{ℕ, suc, ◌+◌, ◌-◌, ◌*◌, ◌/◌, ◌%◌, ◌≤◌}
use native.Mathlib.Omega.{arith}
use Rattle.word.specs.Search.{count}
use Rattle.counting.proofs.fitting.Passing.{count_split}
use Rattle.counting.specs.declared.tally.Total.{Total}
use Rattle.counting.specs.tally.route.Total.{Carries, UNIT, totals, whole}

pub whole-totals : (h : ℕ) → whole (totals h) ≡ h
whole-totals h = omega arith

pub carries_totals : (h : ℕ) → h ≤ UNIT * UNIT → Carries (totals h)
carries_totals h l = record { carried = omega arith; bounded = omega arith }

-- the sum of two numbers, with the carry
pub plus_totals : (s : Total) (more : ℕ)
    → ◌≡◌ {A = Total} (record { quotient = s.quotient + more / UNIT + (s.remainder + more % UNIT) / UNIT; remainder = (s.remainder + more % UNIT) % UNIT })
    (totals (whole s + more))
plus_totals s more =
    let q : s.quotient + more / UNIT + (s.remainder + more % UNIT) / UNIT ≡ (whole s + more) / UNIT = omega arith in
    let r : (s.remainder + more % UNIT) % UNIT ≡ (whole s + more) % UNIT = omega arith in
    λ i. record { quotient = q i; remainder = r i }

module _ (f : ℕ → Bool) where
  -- below a word, and from there to another
  pub below_to : (p q : ℕ) → p ≤ q → count f q 0 ≡ count f p 0 + count f (q - p) p
  below_to p q l =
      let e : 0 + p ≡ p = omega arith in
      count_split f p (q - p) q 0 (omega arith) ∙ ap (λ (n : ℕ). count f p 0 + count f (q - p) n) e

  module _ (p q : ℕ) (order : p ≤ q) where
    split : count f (suc q - p) p ≡ (count f q 0 - count f p 0) + count f 1 q
    split =
        let e : p + (q - p) ≡ q = omega arith in
        let d : count f 1 (p + (q - p)) ≡ count f 1 q = ap (count f 1) e in
        omega (arith, below_to p q order, count_split f (q - p) 1 (suc q - p) p (omega arith))

    pub words_with : f q ≡ true → count f (suc q - p) p ≡ (count f q 0 - count f p 0) + 1
    unfolding count
    words_with e = let o : count f 1 q ≡ 1 = rw (e, count) in omega (arith, split)

    pub words_without : f q ≡ false → count f (suc q - p) p ≡ count f q 0 - count f p 0
    unfolding count
    words_without e = let o : count f 1 q ≡ 0 = rw (e, count) in omega (arith, split)
