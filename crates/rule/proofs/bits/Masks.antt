-- Laws of AND, OR, sums and differences under a mask, over all numbers. A number has the whole mask where its OR with it is
-- itself. Each law goes by halves, or by a block of low bits and the rest. Assumes nothing.
use mathlib.Core.Path.{◌≡◌, sym, ap, ap₂, ◌∙◌, subst}
use Prim.Native.Nat.{ℕ, zero, suc, ◌+◌, ◌-◌, ◌*◌, ◌/◌, ◌%◌, ◌^◌, ◌≤◌, ◌<◌, min, max}
use native.Mathlib.Nat.{add-zero, mul-le-mul_right, mod-lt, mod-eq_of_lt, div-eq_of_lt}
use native.Mathlib.Decide.{dec_lt}
use native.Mathlib.Omega.{arith}
use lib.Arith.{half_le}
use lib.Bits.{bit_and, bit_or, and_comm, and_step, and_le_l, and_le_r, and_shr, and_mod, and_zero_l}
use lib.Bits.{or_zero_l, or_zero_r, or_step, or_lt, or_shr, or_mod, or_block, or_add_and, or_disjoint}
use lib.Pow.{pow_pos, split, shr_mono}
use Rattle.word.specs.Word.{top}
use Rattle.word.proofs.Shared.{shared}
use Rattle.rule.proofs.bits.Bit.{and_swap, and_both, or_twice}

-- what a lacks of the mask
abbrev pub lack : (a m : ℕ) → ℕ
lack a m = m - bit_and a m

-- AND with a turned word leaves what the word lacks
pub and_not : (w x m : ℕ) → x ≤ top w → m ≤ top w → bit_and m (top w - x) ≡ lack x m
and_not w x m h l = omega (arith, shared w x m h l, and_comm m (top w - x))

-- n bounds the digits to go
apart : (n a m : ℕ) → a ≤ n → bit_and a (lack a m) ≡ 0
apart zero a m h = omega (arith, and_le_l a (lack a m))
apart (suc n) a m h =
    omega (
      arith,
      apart n (a / 2) (m / 2) (half_le h),
      and_step a (lack a m) ∙ ap₂ (λ (x y : ℕ). bit_and (a / 2) x * 2 + min (a % 2) y) half odd,
    )
  where
    half : lack a m / 2 ≡ m / 2 - bit_and (a / 2) (m / 2)
    half = omega (arith, and_step a m, and_le_r (a / 2) (m / 2))

    odd : lack a m % 2 ≡ m % 2 - min (a % 2) (m % 2)
    odd = omega (arith, and_step a m, and_le_r (a / 2) (m / 2))

-- what a lacks shares no bit with a
pub lack_apart : (a m : ℕ) → bit_and a (lack a m) ≡ 0
lack_apart a m = apart a a m (omega arith)

-- so to set it sets the mask
pub lack_or : (a m : ℕ) → bit_or a (lack a m) ≡ bit_or a m
lack_or a m = or_disjoint a (lack a m) (lack_apart a m) ∙ omega (arith, or_add_and a m, and_le_r a m)

-- to set the mask's bits adds the same to every number that has the value v under the mask
pub or_adds : (y m v : ℕ) → bit_and y m ≡ v → bit_or y m ≡ y + (m - v)
or_adds y m v e = omega (arith, or_add_and y m, and_le_r y m)

-- and every number that has the whole mask comes from one that has the value
pub or_takes : (g m v : ℕ) → bit_or g m ≡ g → bit_and v m ≡ v → bit_and (g - (m - v)) m ≡ v
or_takes g m v e t =
    ap (λ (b : ℕ). bit_and b m) parts ∙ and_comm (bit_or v rest) m ∙ and_both m v rest
    ∙ ap₂ bit_or (and_comm m v ∙ t) (lack_apart m g) ∙ or_zero_r v
  where
    rest : ℕ
    rest = lack m g

    off : bit_and v rest ≡ 0
    off =
        ap (λ (b : ℕ). bit_and b rest) (sym (and_comm m v ∙ t)) ∙ sym (and_swap m rest v)
        ∙ ap (λ (b : ℕ). bit_and b v) (lack_apart m g) ∙ and_zero_l v

    parts : g - (m - v) ≡ bit_or v rest
    parts = omega (arith, or_disjoint v rest off, or_add_and g m, and_comm g m, and_le_r m g, and_le_r v m)

-- g is the least number at or above a that has the whole mask
pub record NextWhole (a m g : ℕ) : Type 0 where
  pub whole : bit_or g m ≡ g
  pub high : a ≤ g
  pub least : (y : ℕ) → a ≤ y → bit_or y m ≡ y → g ≤ y

-- where a lacks nothing, that is a itself
pub whole_here : (a m : ℕ) → lack a m ≡ 0 → NextWhole a m a
whole_here a m e = record { whole = omega (arith, or_add_and a m, and_le_r a m); high = omega arith; least = λ y h f. h }

-- where what a lacks is j bits long, a has the mask above these bits and is below it in them: so a is kept above, with the mask below
module _ (a m j : ℕ) (short : lack a m < 2 ^ j) (long : 2 ^ j ≤ 2 * lack a m + 1) where
  above : bit_or (a / 2 ^ j) (m / 2 ^ j) ≡ a / 2 ^ j
  above =
      sym (or_shr a m j) ∙ ap (λ (n : ℕ). n / 2 ^ j) (sym (lack_or a m)) ∙ or_shr a (lack a m) j
      ∙ ap (bit_or (a / 2 ^ j)) (div-eq_of_lt short) ∙ or_zero_r (a / 2 ^ j)

  below : a % 2 ^ j ≤ m % 2 ^ j
  below = omega (arith, fits, split m j, split (bit_and a m) j, ap (λ (n : ℕ). n * 2 ^ j) same)
    where
      off : bit_and (a % 2 ^ j) (lack a m) ≡ 0
      off =
          ap (bit_and (a % 2 ^ j)) (sym (mod-eq_of_lt short)) ∙ sym (and_mod a (lack a m) j)
          ∙ ap (λ (n : ℕ). n % 2 ^ j) (lack_apart a m) ∙ mod-eq_of_lt (pow_pos j)

      fits : a % 2 ^ j + lack a m < 2 ^ j
      fits = subst (λ (n : ℕ). n < 2 ^ j) (or_disjoint _ _ off) (or_lt j _ _ (mod-lt a (pow_pos j)) short)

      same : bit_and a m / 2 ^ j ≡ m / 2 ^ j
      same = and_shr a m j ∙ omega (arith, above, or_add_and (a / 2 ^ j) (m / 2 ^ j))

  joint : bit_or (a / 2 ^ j * 2 ^ j) m ≡ a / 2 ^ j * 2 ^ j + m % 2 ^ j
  joint =
      ap₂ bit_or (sym (add-zero (a / 2 ^ j * 2 ^ j))) (sym (split m j))
      ∙ or_block j (a / 2 ^ j) (m / 2 ^ j) 0 (m % 2 ^ j) (pow_pos j) (mod-lt m (pow_pos j))
      ∙ ap₂ (λ (h l : ℕ). h * 2 ^ j + l) above (or_zero_l (m % 2 ^ j))

  lowest : (y : ℕ) → a ≤ y → bit_or y m ≡ y → bit_or (a / 2 ^ j * 2 ^ j) m ≤ y
  lowest y h e =
      omega (arith, joint, split y j, mul-le-mul_right {m = a / 2 ^ j} {n = y / 2 ^ j} (2 ^ j) (shr_mono j h), lows)
    where
      lows : m % 2 ^ j ≤ y % 2 ^ j
      lows =
          omega (arith, ap (λ (n : ℕ). n % 2 ^ j) e, or_mod y m j, or_add_and (y % 2 ^ j) (m % 2 ^ j), and_le_l (y % 2 ^ j) (m % 2 ^ j))

  pub whole_next : NextWhole a m (bit_or (a / 2 ^ j * 2 ^ j) m)
  whole_next = record { whole = or_twice (a / 2 ^ j * 2 ^ j) m; high = omega (arith, split a j, below, joint); least = lowest }

-- no number between g, which has the whole mask, and one more with the mask set again has it; n bounds the digits to go
none_between : (n g m y : ℕ) → g ≤ n → bit_or g m ≡ g → g < y → bit_or y m ≡ y → bit_or (suc g) m ≤ y
none_between zero g m y h e l f = omega (arith, or_add_and g m, and_le_l g m, or_add_and (suc g) m)
none_between (suc n) g m y h e l f = go (dec_lt (g % 2) 1) (none_between n (g / 2) (m / 2) (y / 2) (half_le h) half)
  where
    half : bit_or (g / 2) (m / 2) ≡ g / 2
    half = omega (arith, or_step g m)

    -- one more than g by its halves
    halved : (h : ℕ) → suc g / 2 ≡ h → bit_or (suc g) m ≡ bit_or h (m / 2) * 2 + max (suc g % 2) (m % 2)
    halved h d = or_step (suc g) m ∙ ap (λ (k : ℕ). bit_or k (m / 2) * 2 + max (suc g % 2) (m % 2)) d

    go : Dec (g % 2 < 1) → (g / 2 < y / 2 → bit_or (y / 2) (m / 2) ≡ y / 2 → bit_or (suc (g / 2)) (m / 2) ≤ y / 2) → bit_or (suc g) m ≤ y
    go (yes even) ih = omega (arith, or_step g m, half, halved (g / 2) (omega arith))
    go (no odd) ih = omega (arith, or_step y m, halved (suc (g / 2)) (omega arith), ih (omega arith) (omega (arith, or_step y m)))

-- from a number that has the whole mask the next is one more, with the mask set again
pub whole_after : (g m : ℕ) → bit_or g m ≡ g → NextWhole (suc g) m (bit_or (suc g) m)
whole_after g m e =
    record {
      whole = or_twice (suc g) m;
      high = omega (arith, or_add_and (suc g) m, and_le_r (suc g) m);
      least = λ y h f. none_between g g m y (omega arith) e (omega arith) f;
    }
