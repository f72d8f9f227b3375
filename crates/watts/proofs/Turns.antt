-- What a turn of each loop does: it doubles one side of an equation of whole numbers, or multiplies by ten. Assumes nothing.
use mathlib.Core.Path.{◌≡◌, refl, sym, ap, ◌∙◌}
use Prim.Native.Nat.{ℕ, ◌+◌, ◌-◌, ◌*◌, ◌/◌, ◌%◌, ◌^◌, ◌≤◌, ◌<◌}
use native.Mathlib.Decide.{dec_lt}
use native.Mathlib.Nat.{add-mul, div-add-mod', mul_assoc, mul-le-mul, mul-le-mul_right, mul_right_comm, one-mul, pow-le-pow_right, pow-suc}
use native.Mathlib.Numerals.{add-one}
use native.Mathlib.Omega.{arith}
use lib.Pow.{pow_mono}

-- one more than 24 binary places hold
abbrev pub PAST : ℕ
PAST = 2 ^ 24

-- the largest grain: of it digits of 64 bits have no more than 24 places
abbrev pub LARGEST : ℕ
LARGEST = 2 ^ 41

-- the turns after which digits have 24 places of any grain
abbrev pub TURNS : ℕ
TURNS = 64

pub power_more : (b i : ℕ) → b ^ (i + 1) ≡ b ^ i * b
power_more b i = ap (λ (n : ℕ). b ^ n) (add-one i) ∙ pow-suc b i

pub power_held : (i : ℕ) → i ≤ 9 → 10 ^ i ≤ 10 ^ 9
power_held i h = pow-le-pow_right {n = 10} (omega arith) h

pub doubled_more : (size power d : ℕ) → size ≡ power * 2 ^ d → size * 2 ≡ power * 2 ^ (d + 1)
doubled_more size power d e =
    ap (λ (n : ℕ). n * 2) e ∙ mul_assoc power (2 ^ d) 2 ∙ ap (λ (n : ℕ). power * n) (sym (power_more 2 d))

-- a power of two that fits under another has no larger exponent
pub exponent_held : (d n k : ℕ) → 0 < n → n * 2 ^ d < 2 ^ k → d < k
exponent_held d n k h l = go (dec_lt d k)
  where
    go : Dec (d < k) → d < k
    go (yes m) = m
    go (no m) = absurd (omega (arith, pow_mono {i = k} {j = d} (omega arith), mul-le-mul_right {m = 1} {n = n} (2 ^ d) h, one-mul (2 ^ d)))

module _ (whole size rest n d : ℕ) (divided : whole * size + rest ≡ n * 2 ^ d) where
  -- a binary place more
  pub place_more : (whole * 2 + rest * 2 / size) * size + rest * 2 % size ≡ n * 2 ^ (d + 1)
  place_more =
      omega (arith, add-mul (whole * 2) (rest * 2 / size) size, mul_right_comm whole 2 size, div-add-mod' (rest * 2) size, doubled_more (n * 2 ^ d) n d refl)

  -- while there are fewer than 24 places, turns are left
  pub turns_held : 0 < n → rest < size → size ≤ LARGEST → whole < 2 ^ 23 → d < TURNS
  turns_held some left held low =
      exponent_held d n TURNS some (omega (arith, mul-le-mul {n₁ = whole} {m₁ = size} {n₂ = 2 ^ 23 - 1} {m₂ = LARGEST} (omega arith) held))
