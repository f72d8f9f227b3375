-- Digits written and read again are the same number. A number's digits are those of its quotient and then its last one, and the
-- reader multiplies by the base and adds, which undoes the division. Assumes nothing.
use mathlib.Core.Path.{◌≡◌, refl, sym, ap, ap₂, ◌∙◌}
use mathlib.Core.Bool.{Bool, true, false, and-false, cond}
use mathlib.Core.List.{List, [], ◌∷◌, ◌++◌}
use Prim.Native.Nat.{ℕ, zero, suc, ◌+◌, ◌-◌, ◌*◌, ◌/◌, ◌%◌, ◌^◌, ◌≤◌, ◌<◌}
use native.Mathlib.Decide.{dec_lt}
use native.Mathlib.Nat.{div-add-mod, div-lt_self, le-div_iff_mul-le, le-mul_of_pos_right, mod-lt, mul_left_comm, one-le-pow, pow-succ'}
use native.Mathlib.Numerals.{add-one}
use native.Mathlib.Omega.{arith}
use borrow.Author.Tests.{le-leb, le-ltb, lt-leb, lt-ltb, ne_eqb}
use lib.Dec.{ltb}
use lib.ListN.{length, length-append}
use Rattle.digits.specs.hexadecimal.Hex.{glyph}
use Rattle.digits.specs.declared.numeral.Numeral.{Numeral}
use Rattle.digits.specs.numeral.Digits.{digits, digits_in}
use Rattle.digits.specs.declared.numeral.Stage.{Stage}
use Rattle.digits.specs.declared.numeral.Stage.TheVariants.{Digits, Needs, Start}
use Rattle.digits.specs.numeral.Numeral.{PLACES, after_zero, below_zero, digit, has_digits, is_start, is_stopped, is_zero, next, numeral, numeral_from, past_digit, pointed, start, value_of}

module _ (base : ℕ) (two : 2 ≤ base) where
  -- any number of digits above the number itself is enough
  enough : (k l x : ℕ) → x < k → x < l → digits base k x ≡ digits base l x
  unfolding digits
  enough zero l x h i = absurd (omega arith)
  enough (suc k) zero x h i = absurd (omega arith)
  enough (suc k) (suc l) x h i = go (dec_lt x base) (enough k l (x / base))
    where
      go : Dec (x < base) → (x / base < k → x / base < l → digits base k (x / base) ≡ digits base l (x / base))
          → digits base (suc k) x ≡ digits base (suc l) x
      go (yes s) later = rw (lt-ltb x base s)
      go (no s) later =
          let q : x / base < x = div-lt_self (omega arith) (omega arith) in
          ap (λ (ds : List ℕ). cond (ltb x base) (glyph x ∷ []) (ds ++ glyph (x % base) ∷ [])) (later (omega arith) (omega arith))

  pub last_digit : (x : ℕ) → x < base → digits_in base x ≡ glyph x ∷ []
  unfolding digits_in digits
  last_digit x h = rw (lt-ltb x base h)

  pub digit_more : (x : ℕ) → base ≤ x → digits_in base x ≡ digits_in base (x / base) ++ glyph (x % base) ∷ []
  unfolding digits_in digits
  digit_more x h =
      let q : x / base < x = div-lt_self (omega arith) (omega arith) in
      rw (le-ltb x base h) (ap (λ (ds : List ℕ). ds ++ glyph (x % base) ∷ []) (enough x (suc (x / base)) (x / base) q (omega arith)))

  pub length_more : (x : ℕ) → base ≤ x → length (digits_in base x) ≡ length (digits_in base (x / base)) + 1
  length_more x h = ap length (digit_more x h) ∙ length-append (digits_in base (x / base)) _

-- ---- read again

pub numeral_more : (n : Numeral) (xs ys : List ℕ) → numeral_from n (xs ++ ys) ≡ numeral_from (numeral_from n xs) ys
unfolding numeral_from
numeral_more n [] ys = refl
numeral_more n (x ∷ xs) ys = numeral_more (next n x) xs ys

-- a digit more of a whole number
module _ (stage : Stage) (base v d : ℕ) (minus : Bool) (other : is_zero stage ≡ false) (going : is_stopped stage ≡ false) (few : base ≤ 16) (small : d < base) where
  value_back : value_of (glyph d) ≡ d
  unfolding value_of glyph
  value_back = go (dec_lt d 10)
    where
      go : Dec (d < 10) → value_of (glyph d) ≡ d
      go (yes h) = rw (lt-ltb d 10 h, le-leb 48 (48 + d) (omega arith), le-leb (48 + d) 57 (omega arith)) (omega arith)
      go (no h) =
          rw (le-ltb d 10 (omega arith), le-leb 48 (87 + d) (omega arith), lt-leb (87 + d) 57 (omega arith), le-leb 97 (87 + d) (omega arith), le-leb (87 + d) 102 (omega arith))
          (omega arith)

  no_sign : (glyph d ≡ 45 → ⊥) × (glyph d ≡ 46 → ⊥)
  unfolding glyph
  no_sign = go (dec_lt d 10)
    where
      go : Dec (d < 10) → (glyph d ≡ 45 → ⊥) × (glyph d ≡ 46 → ⊥)
      go (yes h) = rw (lt-ltb d 10 h) ((λ e. omega arith), (λ e. omega arith))
      go (no h) = rw (le-ltb d 10 (omega arith)) ((λ e. omega arith), (λ e. omega arith))

  pub next_digit : base * v + d ≤ 2 ^ 64 - 1
      → next (numeral stage minus base false v 0) (glyph d) ≡ numeral (past_digit stage d) minus base false (base * v + d) 0
  unfolding next digit
  next_digit fits =
      rw (ne_eqb (glyph d) 45 no_sign.0, ne_eqb (glyph d) 46 no_sign.1, other, value_back, going, lt-leb base d small, le-leb (base * v + d) (2 ^ 64 - 1) fits)

module _ (stage : Stage) (base : ℕ) (minus : Bool) (other : is_zero stage ≡ false) (going : is_stopped stage ≡ false) (two : 2 ≤ base) (few : base ≤ 16) where
  past_some : (x : ℕ) → 1 ≤ x → past_digit stage x ≡ Digits
  unfolding past_digit
  past_some x h = rw (ne_eqb x 0 (λ e. omega arith), and-false (is_start stage))

  past_digits : (d : ℕ) → past_digit Digits d ≡ Digits
  unfolding past_digit
  past_digits d = refl

  back : (k x : ℕ) → x < k → x ≤ 2 ^ 64 - 1
      → numeral_from (numeral stage minus base false 0 0) (digits base k x) ≡ numeral (past_digit stage x) minus base false x 0
  unfolding digits numeral_from
  back zero x h i = absurd (omega arith)
  back (suc k) x h i = go (dec_lt x base) (back k (x / base))
    where
      go : Dec (x < base)
          → (x / base < k → x / base ≤ 2 ^ 64 - 1 → numeral_from (numeral stage minus base false 0 0) (digits base k (x / base)) ≡ numeral (past_digit stage (x / base)) minus base false (x / base) 0)
          → numeral_from (numeral stage minus base false 0 0) (digits base (suc k) x) ≡ numeral (past_digit stage x) minus base false x 0
      go (yes s) later =
          let e : base * 0 + x ≡ x = omega arith in
          rw (lt-ltb x base s)
          (next_digit stage base 0 x minus other going few s (omega arith) ∙ ap (λ (n : ℕ). numeral (past_digit stage x) minus base false n 0) e)
      go (no s) later =
          let q : x / base < x = div-lt_self (omega arith) (omega arith) in
          let e : base * (x / base) + x % base ≡ x = div-add-mod x base in
          let some : 1 ≤ x / base = (le-div_iff_mul-le {k = base} {x = 1} {y = x} (omega arith)).1 (omega arith) in
          rw (le-ltb x base (omega arith), numeral_more (numeral stage minus base false 0 0) (digits base k (x / base)) (glyph (x % base) ∷ []), later (omega arith) (omega arith))
          (ap (λ (s : Stage). next (numeral s minus base false (x / base) 0) (glyph (x % base))) (past_some (x / base) some)
          ∙ next_digit Digits base (x / base) (x % base) minus refl refl few (mod-lt x (omega arith)) (omega arith)
          ∙ ap (λ (n : ℕ). numeral (past_digit Digits (x % base)) minus base false n 0) e
          ∙ ap (λ (s : Stage). numeral s minus base false x 0) (past_digits (x % base) ∙ sym (past_some x (omega arith))))

-- what is written in a base is read again as that number
pub digits_back : (x : ℕ) → x ≤ 2 ^ 64 - 1 → numeral_from start (digits_in 10 x) ≡ numeral (past_digit Start x) false 10 false x 0
unfolding digits_in
digits_back x h = back Start 10 false refl refl (omega arith) (omega arith) (suc x) x (omega arith) h

-- after `0x`
pub hex_back : (x : ℕ) → x ≤ 2 ^ 64 - 1 → numeral_from start (48 ∷ 120 ∷ digits_in 16 x) ≡ numeral Digits false 16 false x 0
unfolding digits_in numeral_from next after_zero digit value_of past_digit
hex_back x h = back Needs 16 false refl refl (omega arith) (omega arith) (suc x) x (omega arith) h

-- after `-`
pub minus_back : (x : ℕ) → x ≤ 2 ^ 64 - 1 → numeral_from start (45 ∷ digits_in 10 x) ≡ numeral Digits true 10 false x 0
unfolding digits_in numeral_from next below_zero past_digit
minus_back x h = back Needs 10 true refl refl (omega arith) (omega arith) (suc x) x (omega arith) h

-- ---- fractions

-- k digits of b, the most significant first, with as many zeros before them as there are places left
unfoldable pub places : (k b : ℕ) → List ℕ
places zero b = []
places (suc k) b = places k (b / 10) ++ glyph (b % 10) ∷ []

-- a digit after the point
module _ (stage : Stage) (v d k : ℕ) (minus : Bool) (some : (is_start stage ≡ false) × (is_zero stage ≡ false)) (going : is_stopped stage ≡ false) (small : d < 10) (few : k < PLACES) where
  next_place : 10 * v + d ≤ 2 ^ 64 - 1 → next (numeral stage minus 10 true v k) (glyph d) ≡ numeral Digits minus 10 true (10 * v + d) (k + 1)
  unfolding next digit past_digit
  next_place fits =
      let sign = no_sign stage 10 v d minus some.1 going (omega arith) small in
      let back = value_back stage 10 v d minus some.1 going (omega arith) small in
      rw (ne_eqb (glyph d) 45 sign.0, ne_eqb (glyph d) 46 sign.1, some.1, back, going, lt-leb 10 d small, lt-leb PLACES k few, le-leb (10 * v + d) (2 ^ 64 - 1) fits, some.0)

-- the point wants a digit after it
unfoldable went : ℕ → Stage
went zero = Needs
went (suc k) = Digits

went_some : (k : ℕ) → ((is_start (went k) ≡ false) × (is_zero (went k) ≡ false)) × (is_stopped (went k) ≡ false)
unfolding went
went_some zero = ((refl, refl), refl)
went_some (suc k) = ((refl, refl), refl)

module _ (minus : Bool) (v : ℕ) where
  Back : (k b : ℕ) → Type 0
  Back k b = numeral_from (numeral Needs minus 10 true v 0) (places k b) ≡ numeral (went k) minus 10 true (v * 10 ^ k + b) k

  scaled : (k b : ℕ) → 10 * (v * 10 ^ k + b / 10) + b % 10 ≡ v * 10 ^ suc k + b
  scaled k b =
      let e : 10 * (b / 10) + b % 10 ≡ b = div-add-mod b 10 in
      let p : v * 10 ^ suc k ≡ 10 * (v * 10 ^ k) = ap (λ (n : ℕ). v * n) (pow-succ' 10 k) ∙ mul_left_comm v 10 (10 ^ k) in
      omega arith

  one_more : (k b : ℕ) → k < PLACES → v * 10 ^ suc k + b ≤ 2 ^ 64 - 1 → Back k (b / 10) → Back (suc k) b
  unfolding Back places numeral_from went
  one_more k b few fits before =
      let q = scaled k b in
      numeral_more (numeral Needs minus 10 true v 0) (places k (b / 10)) (glyph (b % 10) ∷ [])
      ∙ ap (λ (n : Numeral). next n (glyph (b % 10))) before
      ∙ next_place (went k) (v * 10 ^ k + b / 10) (b % 10) k minus (went_some k).0 (went_some k).1 (mod-lt b (omega arith)) few (omega arith)
      ∙ ap₂ (numeral Digits minus 10 true) q (add-one k)

  none_yet : (b : ℕ) → b < 10 ^ 0 → Back 0 b
  unfolding Back places numeral_from went
  none_yet b small =
      let e : v ≡ v * 10 ^ 0 + b = omega arith in ap (λ (n : ℕ). numeral Needs minus 10 true n 0) e

  places_back : (k b : ℕ) → k ≤ PLACES → b < 10 ^ k → v * 10 ^ k + b ≤ 2 ^ 64 - 1 → Back k b
  places_back zero b few small fits = none_yet b small
  places_back (suc k) b few small fits =
      let q = scaled k b in
      one_more k b few fits (places_back k (b / 10) (omega arith) (omega (arith, div-add-mod b 10)) (omega arith))

-- a point after a whole number
point_after : (minus : Bool) (stage : Stage) (v : ℕ) → has_digits stage ≡ true → next (numeral stage minus 10 false v 0) 46 ≡ numeral Needs minus 10 true v 0
unfolding next pointed
point_after minus stage v some = rw some

past_start : (a : ℕ) → has_digits (past_digit Start a) ≡ true
unfolding past_digit
past_start zero = refl
past_start (suc a) = rw (ne_eqb (suc a) 0 (λ e. omega arith)) refl

-- What is read of the digits of a, a point, and k digits of b, is a * 10^k + b with k places.
module _ (a k b : ℕ) (one : 1 ≤ k) (few : k ≤ PLACES) (small : b < 10 ^ k) (fits : a * 10 ^ k + b ≤ 2 ^ 64 - 1) where
  whole_fits : a ≤ 2 ^ 64 - 1
  whole_fits = omega (arith, le-mul_of_pos_right {m = 10 ^ k} a (one-le-pow k 10 (omega arith)))

  went_digits : went k ≡ Digits
  unfolding went
  went_digits = go k one
    where
      go : (j : ℕ) → 1 ≤ j → went j ≡ Digits
      go zero h = absurd (omega arith)
      go (suc j) h = refl

  after : (minus : Bool) (stage : Stage) → has_digits stage ≡ true
      → numeral_from (numeral stage minus 10 false a 0) (46 ∷ places k b) ≡ numeral Digits minus 10 true (a * 10 ^ k + b) k
  unfolding numeral_from Back
  after minus stage some =
      ap (λ (n : Numeral). numeral_from n (places k b)) (point_after minus stage a some)
      ∙ places_back minus a k b few small fits
      ∙ ap (λ (s : Stage). numeral s minus 10 true (a * 10 ^ k + b) k) went_digits

  pub fraction_back : numeral_from start (digits_in 10 a ++ 46 ∷ places k b) ≡ numeral Digits false 10 true (a * 10 ^ k + b) k
  fraction_back =
      numeral_more start (digits_in 10 a) (46 ∷ places k b)
      ∙ ap (λ (n : Numeral). numeral_from n (46 ∷ places k b)) (digits_back a whole_fits)
      ∙ after false (past_digit Start a) (past_start a)

  -- after `-`
  pub minus_fraction_back : numeral_from start (45 ∷ digits_in 10 a ++ 46 ∷ places k b) ≡ numeral Digits true 10 true (a * 10 ^ k + b) k
  minus_fraction_back =
      numeral_more start (45 ∷ digits_in 10 a) (46 ∷ places k b)
      ∙ ap (λ (n : Numeral). numeral_from n (46 ∷ places k b)) (minus_back a whole_fits)
      ∙ after true Digits refl
