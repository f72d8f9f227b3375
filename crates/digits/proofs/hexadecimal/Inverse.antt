-- Digits written and read again are the same number, and digits read and written again are the same digits. Assumes nothing.
use mathlib.Core.Path.{◌≡◌, refl, sym, ap, ap₂, ◌∙◌}
use mathlib.Core.Bool.{Bool, true, false, false≢true, ◌&&◌}
use mathlib.Core.List.{List, [], ◌∷◌, ◌++◌, append-nil}
use Prim.Native.Nat.{ℕ, zero, suc, ◌+◌, ◌-◌, ◌*◌, ◌/◌, ◌%◌, ◌^◌, ◌≤◌, ◌<◌}
use native.Mathlib.Decide.{dec_le, dec_lt}
use native.Mathlib.Nat.{add-suc, add-zero, div-add-mod, div-eq_of_lt, mod-eq_of_lt, mod-lt, mul-add-div, mul-add-mod_self_left, mul_assoc}
use native.Mathlib.Nat.{mul-le-mul_right, pow-suc, pow-succ', suc-add, zero-add}
use native.Mathlib.Omega.{arith}
use borrow.Author.Tests.{le-leb, le-ltb, lt-leb, lt-ltb}
use lib.ListN.{length}
use lib.Seq.{append_snoc}
use Rattle.digits.specs.hexadecimal.Hex.{all_digits, glyph, hex, is_digit, number, number_from, value}

-- ---- one digit

module _ (d : ℕ) (h : d < 16) where
  glyph_small : d < 10 → (value (glyph d) ≡ d) × (is_digit (glyph d) ≡ true)
  unfolding glyph value is_digit
  glyph_small k = (
    rw (lt-ltb d 10 k, le-leb 48 (48 + d) (omega arith), le-leb (48 + d) 57 (omega arith)) (omega arith),
    rw (lt-ltb d 10 k, le-leb 48 (48 + d) (omega arith), le-leb (48 + d) 57 (omega arith)),
  )

  glyph_large : 10 ≤ d → (value (glyph d) ≡ d) × (is_digit (glyph d) ≡ true)
  unfolding glyph value is_digit
  glyph_large k =
      let a = le-leb 48 (87 + d) (omega arith) in
      let b = lt-leb (87 + d) 57 (omega arith) in
      let e = le-leb 97 (87 + d) (omega arith) in
      let f = le-leb (87 + d) 102 (omega arith) in
      (rw (le-ltb d 10 k, a, b, e, f) (omega arith), rw (le-ltb d 10 k, a, b, e, f))

  glyph_back : (value (glyph d) ≡ d) × (is_digit (glyph d) ≡ true)
  glyph_back = go (dec_lt d 10)
    where
      go : Dec (d < 10) → (value (glyph d) ≡ d) × (is_digit (glyph d) ≡ true)
      go (yes k) = glyph_small k
      go (no n) = glyph_large (omega (arith, n))

module _ (b : ℕ) where
  no_digit : (48 ≤ b → b ≤ 57 → ⊥) → (97 ≤ b → b ≤ 102 → ⊥) → is_digit b ≡ false
  unfolding is_digit
  no_digit m n = go (dec_le 48 b) (dec_le b 57) (dec_le 97 b) (dec_le b 102)
    where
      go : Dec (48 ≤ b) → Dec (b ≤ 57) → Dec (97 ≤ b) → Dec (b ≤ 102) → is_digit b ≡ false
      go (yes h) (yes i) j k = absurd (m h i)
      go (yes h) (no i) (yes j) (yes k) = absurd (n j k)
      go (yes h) (no i) (yes j) (no k) = rw (lt-leb b 57 (omega (arith, i)), lt-leb b 102 (omega (arith, k)), le-leb 48 b h, le-leb 97 b j)
      go (yes h) (no i) (no j) k = rw (lt-leb b 57 (omega (arith, i)), lt-leb 97 b (omega (arith, j)), le-leb 48 b h)
      go (no h) i (yes j) k = absurd (h (omega arith))
      go (no h) i (no j) k = rw (lt-leb 48 b (omega (arith, h)), lt-leb 97 b (omega (arith, j)))

  -- written as it was read, and below 16
  abbrev Back : Type 0
  Back = (glyph (value b) ≡ b) × (value b < 16)

  value_numeral : 48 ≤ b → b ≤ 57 → Back
  unfolding value glyph
  value_numeral h i = (
    rw (le-leb 48 b h, le-leb b 57 i, lt-ltb (b - 48) 10 (omega arith)) (omega arith),
    rw (le-leb 48 b h, le-leb b 57 i) (omega arith),
  )

  value_letter : 97 ≤ b → b ≤ 102 → Back
  unfolding value glyph
  value_letter h i =
      let l = le-leb 48 b (omega arith) in
      let m = lt-leb b 57 (omega arith) in (
        rw (l, m, le-leb 97 b h, le-leb b 102 i, le-ltb (b - 87) 10 (omega arith)) (omega arith),
        rw (l, m, le-leb 97 b h, le-leb b 102 i) (omega arith),
      )

  value_back : is_digit b ≡ true → Back
  value_back t = go (dec_le 48 b) (dec_le b 57) (dec_le 97 b) (dec_le b 102)
    where
      go : Dec (48 ≤ b) → Dec (b ≤ 57) → Dec (97 ≤ b) → Dec (b ≤ 102) → Back
      go (yes h) (yes i) j k = value_numeral h i
      go (yes h) (no i) (yes j) (yes k) = value_letter j k
      go (yes h) (no i) (yes j) (no k) = absurd (false≢true (sym (no_digit (λ m. i) (λ m. k)) ∙ t))
      go (yes h) (no i) (no j) k = absurd (false≢true (sym (no_digit (λ m. i) (λ m n. j m)) ∙ t))
      go (no h) i (yes j) k = absurd (h (omega arith))
      go (no h) i (no j) k = absurd (false≢true (sym (no_digit (λ m n. h m) (λ m n. j m)) ∙ t))

-- ---- several digits

pub both : (a b : Bool) → (a && b) ≡ true → (a ≡ true) × (b ≡ true)
both true b e = (refl, e)
both false b e = absurd (false≢true e)

pub all_digits_more : (xs ys : List ℕ) → all_digits (xs ++ ys) ≡ (all_digits xs && all_digits ys)
unfolding all_digits
all_digits_more [] ys = refl
all_digits_more (x ∷ xs) ys = ap (λ (t : Bool). is_digit x && t) (all_digits_more xs ys) ∙ and_assoc (is_digit x) (all_digits xs) (all_digits ys)
  where
    and_assoc : (a b c : Bool) → (a && (b && c)) ≡ ((a && b) && c)
    and_assoc true b c = refl
    and_assoc false b c = refl

pub all_digits_parts : (xs ys : List ℕ) → all_digits (xs ++ ys) ≡ true → (all_digits xs ≡ true) × (all_digits ys ≡ true)
all_digits_parts xs ys e = both (all_digits xs) (all_digits ys) (sym (all_digits_more xs ys) ∙ e)

pub hex_digits : (k x : ℕ) → all_digits (hex k x) ≡ true
unfolding hex all_digits
hex_digits zero x = refl
hex_digits (suc k) x =
    rw (all_digits_more (hex k (x / 16)) (glyph (x % 16) ∷ []), hex_digits k (x / 16), (glyph_back (x % 16) (mod-lt x (omega arith))).1)

number_more : (n : ℕ) (xs : List ℕ) (b : ℕ) → number_from n (xs ++ b ∷ []) ≡ 16 * number_from n xs + value b
unfolding number_from
number_more n [] b = refl
number_more n (x ∷ xs) b = number_more (16 * n + value x) xs b

-- a number that so many digits hold is read as it was written
pub hex_back : (k x : ℕ) → x < 16 ^ k → number (hex k x) ≡ x
unfolding hex number number_from
hex_back zero x h = omega arith
hex_back (suc k) x h =
    let small : x / 16 < 16 ^ k = omega (arith, pow-suc 16 k, div-add-mod x 16) in
    number_more 0 (hex k (x / 16)) (glyph (x % 16))
    ∙ ap₂ (λ (m v : ℕ). 16 * m + v) (hex_back k (x / 16) small) (glyph_back (x % 16) (mod-lt x (omega arith))).0
    ∙ div-add-mod x 16

-- a digit more
digit_after : (k n b : ℕ) → is_digit b ≡ true → hex (suc k) (16 * n + value b) ≡ hex k n ++ b ∷ []
unfolding hex
digit_after k n b t =
    let v = value_back b t in
    let q : (16 * n + value b) / 16 ≡ n = mul-add-div (omega arith) n (value b) ∙ ap (λ (j : ℕ). n + j) (div-eq_of_lt v.1) ∙ add-zero n in
    let r : (16 * n + value b) % 16 ≡ value b = mul-add-mod_self_left 16 n (value b) ∙ mod-eq_of_lt v.1 in
    ap₂ (λ (i j : ℕ). hex k i ++ glyph j ∷ []) q r ∙ ap (λ (c : ℕ). hex k n ++ c ∷ []) v.0

-- digits are written as they were read
digits_after : (k n : ℕ) (l : List ℕ) → all_digits l ≡ true → hex (k + length l) (number_from n l) ≡ hex k n ++ l
unfolding number_from all_digits hex
digits_after k n [] t = ap (λ (j : ℕ). hex j n) (add-zero k) ∙ sym (append-nil (hex k n))
digits_after k n (b ∷ l) t =
    let s = both (is_digit b) (all_digits l) t in
    ap (λ (j : ℕ). hex j (number_from (16 * n + value b) l)) (add-suc k (length l) ∙ sym (suc-add k (length l)))
    ∙ digits_after (suc k) (16 * n + value b) l s.1
    ∙ ap (λ (ds : List ℕ). ds ++ l) (digit_after k n b s.0)
    ∙ append_snoc (hex k n) b l

pub digits_back : (k : ℕ) (l : List ℕ) → length l ≡ k → all_digits l ≡ true → hex k (number l) ≡ l
unfolding number hex
digits_back k l e t = ap (λ (j : ℕ). hex j (number_from 0 l)) (sym e ∙ sym (zero-add (length l))) ∙ digits_after 0 0 l t

-- digits write a number that fits as many digits
below_after : (n : ℕ) (l : List ℕ) → all_digits l ≡ true → number_from n l < suc n * 16 ^ length l
unfolding number_from all_digits
below_after n [] t = omega arith
below_after n (b ∷ l) t =
    let s = both (is_digit b) (all_digits l) t in
    let v = value_back b s.0 in
    let h : suc (16 * n + value b) * 16 ^ length l ≤ suc n * 16 * 16 ^ length l = mul-le-mul_right (16 ^ length l) (omega arith) in
    let e = ap (λ (m : ℕ). suc n * m) (pow-succ' 16 (length l)) ∙ sym (mul_assoc (suc n) 16 (16 ^ length l)) in
    omega (arith, below_after (16 * n + value b) l s.1)

pub number_below : (l : List ℕ) → all_digits l ≡ true → number l < 16 ^ length l
unfolding number
number_below l t = omega (arith, below_after 0 l t)
