-- How long numbers are: one below a power of the base has no more digits than that power, so twenty in decimal and sixteen in hexadecimal.
-- Assumes nothing.
use mathlib.Core.Path.{◌≡◌, ap, ◌∙◌}
use mathlib.Core.Bool.{Bool, true, false, cond}
use mathlib.Core.List.{List}
use Prim.Native.Nat.{ℕ, zero, suc, ◌-◌, ◌*◌, ◌/◌, ◌^◌, ◌≤◌, ◌<◌}
use native.Mathlib.Decide.{dec_lt}
use native.Mathlib.Nat.{div-lt_iff_lt-mul, one-mul, pow-suc, pow-zero}
use native.Mathlib.Omega.{arith}
use lib.Dec.{ltb}
use lib.ListN.{length}
use lib.Pow.{pow_mono}
use Rattle.word.specs.Word.{half, minus}
use Rattle.word.proofs.Sums.{minus_word}
use Rattle.word.proofs.Widths.{top-suc}
use Rattle.digits.specs.hexadecimal.Text.{bytes_of}
use Rattle.digits.specs.numeral.Digits.{digits_in}
use Rattle.digits.proofs.numeral.Quotients.{last_digit, length_more}
use Rattle.digits.specs.phrase.Phrase.{decimal, signedly}

module _ (base : ℕ) (two : 2 ≤ base) where
  few : (k x : ℕ) → x < base ^ suc k → length (digits_in base x) ≤ suc k
  few zero x h =
      let e : base ^ 1 ≡ base = pow-suc base 0 ∙ ap (λ (n : ℕ). n * base) (pow-zero base) ∙ one-mul base in
      omega (arith, ap length (last_digit base two x (omega arith)))
  few (suc k) x h = go (dec_lt x base) (few k (x / base))
    where
      go : Dec (x < base) → (x / base < base ^ suc k → length (digits_in base (x / base)) ≤ suc k) → length (digits_in base x) ≤ suc (suc k)
      go (yes s) later = omega (arith, ap length (last_digit base two x s))
      go (no s) later =
          let q : x / base < base ^ suc k = (div-lt_iff_lt-mul {k = base} {x = x} {y = base ^ suc k} (omega arith)).1 (omega (arith, pow-suc base (suc k))) in
          omega (arith, length_more base two x (omega arith), later q)

pub few_decimal : (x : ℕ) → x ≤ 2 ^ 64 - 1 → length (decimal x) ≤ 20
few_decimal x h = few 10 (omega arith) 19 x (omega arith)

pub few_hexadecimal : (x : ℕ) → x ≤ 2 ^ 64 - 1 → length (digits_in 16 x) ≤ 16
few_hexadecimal x h = few 16 (omega arith) 15 x (omega arith)

pub either : (b : Bool) (xs ys : List ℕ) (n : ℕ) → length xs ≤ n → length ys ≤ n → length (cond b xs ys) ≤ n
either true xs ys n h i = h
either false xs ys n h i = i

pub few_signed : (w a : ℕ) → w ≤ 64 → a ≤ 2 ^ 64 - 1 → length (signedly w a) ≤ 21
unfolding signedly bytes_of
few_signed w a high h =
    let m = pow_mono {i = w} {j = 64} high in
    let n = few_decimal (minus w 0 a) (omega (arith, minus_word w 0 a, top-suc w)) in
    either (ltb a (half w)) _ _ 21 (omega (arith, few_decimal a h)) (omega arith)
