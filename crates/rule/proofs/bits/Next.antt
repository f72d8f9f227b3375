-- The next word that has the bits. To set the mask's bits adds one and the same gap to every word that has the bits, and gives just
-- the numbers that have the whole mask: so the next from p on is the next of those from p and the gap on, less the gap. Assumes nothing.
use mathlib.Core.Path.{◌≡◌, refl, sym, ap, ◌∙◌, subst}
use Prim.Native.Nat.{ℕ, suc, ◌+◌, ◌-◌, ◌*◌, ◌/◌, ◌^◌, ◌≤◌, ◌<◌}
use native.Mathlib.Numerals.{add-one}
use native.Mathlib.Omega.{arith}
use borrow.Author.Tests.{eq-eqb, ne_eqb}
use lib.Bits.{bit_and, bit_or, and_comm, and_le_l, and_mask, or_lt}
use lib.Count.{count_leading_zeros, leading_top, leading_length}
use lib.Pow.{pow_mono, split}
use Rattle.std.specs.Prelude.{Some, None}
use Rattle.word.specs.Word.{top}
use Rattle.word.specs.Search.{first}
use Rattle.word.proofs.Cut.{top_shifted}
use Rattle.word.proofs.Search.{first_at, first_none}
use Rattle.word.proofs.Widths.{top-suc}
use Rattle.rule.specs.declared.bits.Fixed.{Fixed}
use Rattle.rule.specs.declared.bits.Fixed.TheVariants.{Bits, Clash}
use Rattle.rule.specs.bits.route.Fixed.{has_bits, Tidy}
use Rattle.rule.proofs.bits.Bit.{or_twice}
use Rattle.rule.proofs.bits.Masks.{NextWhole, lack, and_not, or_adds, or_takes, whole_after, whole_here, whole_next}

pub tidy_value : (f : Fixed) (m v : ℕ) → f ≡ Bits m v → Tidy f → bit_and v m ≡ v
unfolding Tidy
tidy_value f m v e t = subst Tidy e t

pub clash_none : (n p : ℕ) → first (has_bits Clash) n p ≡ None
unfolding has_bits
clash_none n p = first_none (has_bits Clash) n p (λ y l h. refl)

-- the machine's steps: what a lacks of the mask, and a kept above these bits with the mask below
abbrev pub missing : (a m : ℕ) → ℕ
missing a m = bit_and m (2 ^ 64 - 1 - a)

abbrev pub raised : (a m : ℕ) → ℕ
raised a m = bit_or (bit_and a (2 ^ 64 - 1 - (2 ^ 64 - 1) / 2 ^ count_leading_zeros 64 (missing a m))) m

-- z zeros above j ones, turned, clear the j low bits
cleared : (a j z : ℕ) → a < 2 ^ 64 → z + j ≡ 64 → bit_and a (2 ^ 64 - 1 - (2 ^ 64 - 1) / 2 ^ z) ≡ a / 2 ^ j * 2 ^ j
unfolding top
cleared a j z h e =
    ap (λ (n : ℕ). bit_and a (2 ^ 64 - 1 - n)) ones
    ∙ and_not 64 (top j) a (omega (arith, top-suc j, pow_mono {i = j} {j = 64} (omega arith))) (omega arith)
    ∙ omega (arith, and_comm (top j) a, and_mask a j, split a j)
  where
    ones : (2 ^ 64 - 1) / 2 ^ z ≡ top j
    ones = let d : z ≡ 64 - j = omega arith in ap (λ (n : ℕ). (2 ^ 64 - 1) / 2 ^ n) d ∙ top_shifted j (omega arith)

module _ (a m : ℕ) (ha : a < 2 ^ 64) (hm : m < 2 ^ 64) where
  missing-lack : missing a m ≡ lack a m
  unfolding top
  missing-lack = and_not 64 a m (omega arith) (omega arith)

  pub none_missing : missing a m ≡ 0 → NextWhole a m a
  none_missing e = whole_here a m (sym missing-lack ∙ e)

  pub raised_is : NextWhole a m (raised a m)
  raised_is =
      let l = leading_length 64 (missing a m) (omega (arith, and_le_l m (2 ^ 64 - 1 - a))) in
      subst (λ (h : ℕ). NextWhole a m (bit_or h m)) (sym (cleared a l.0 _ ha l.1))
      (whole_next a m l.0 (subst (λ (n : ℕ). n < 2 ^ l.0) missing-lack l.2) (subst (λ (n : ℕ). 2 ^ l.0 ≤ 2 * n + 1) missing-lack l.3))

pub missing_short : (a m : ℕ) → (missing a m ≡ 0 → ⊥) → m < 2 ^ 64 → count_leading_zeros 64 (missing a m) < 64
missing_short a m n h = omega (arith, (leading_top 64 (missing a m) (omega arith) (omega (arith, and_le_l m (2 ^ 64 - 1 - a)))).1)

module _ (w m v p : ℕ) where
  none : ((y : ℕ) → p ≤ y → y ≤ top w → bit_and y m ≡ v → ⊥) → first (has_bits (Bits m v)) (suc (top w) - p) p ≡ None
  unfolding has_bits
  none n = first_none (has_bits (Bits m v)) _ p (λ y l h. ne_eqb (bit_and y m) v (n y l (omega arith)))

  -- with the mask's bits set, a word from p on would no longer fit the machine's
  pub past : w ≤ 64 → m < 2 ^ 64 → 2 ^ 64 ≤ p + (m - v) → first (has_bits (Bits m v)) (suc (top w) - p) p ≡ None
  past h l o =
      none
      (λ y b t e. omega (arith, or_adds y m v e, or_lt 64 y m (omega (arith, top-suc w, pow_mono {i = w} {j = 64} h)) l))

  module _ (g : ℕ) (next : NextWhole (p + (m - v)) m g) where
    least : (y : ℕ) → p ≤ y → bit_and y m ≡ v → g ≤ y + (m - v)
    least y l e = let f = or_adds y m v e in omega (arith, next.least (bit_or y m) (omega arith) (or_twice y m))

    pub none_next : top w < g - (m - v) → first (has_bits (Bits m v)) (suc (top w) - p) p ≡ None
    none_next h = none (λ y l t e. omega (arith, least y l e))

    pub found_next : bit_and v m ≡ v → g - (m - v) ≤ top w → first (has_bits (Bits m v)) (suc (top w) - p) p ≡ Some (g - (m - v))
    unfolding has_bits
    found_next t h =
        first_at (has_bits (Bits m v)) _ p (g - (m - v)) (omega arith) (omega arith) (eq-eqb _ v (or_takes g m v next.whole t))
        (λ y l b. ne_eqb (bit_and y m) v (λ e. omega (arith, least y l e)))

  pub found_here : NextWhole (p + (m - v)) m (p + (m - v)) → bit_and v m ≡ v → p ≤ top w → first (has_bits (Bits m v)) (suc (top w) - p) p ≡ Some p
  found_here n t h = let e : p + (m - v) - (m - v) ≡ p = omega arith in found_next _ n t (omega arith) ∙ ap Some e

-- above a word that has the bits: with the mask's bits set it has the whole mask, and one more is where the next is sought
module _ (m v x : ℕ) (has : bit_and x m ≡ v) where
  set_mask : suc (bit_or x m) ≡ suc x + (m - v)
  set_mask = omega (arith, or_adds x m v has)

  pub none_after : m < 2 ^ 64 → bit_or x m ≡ 2 ^ 64 - 1 → first (has_bits (Bits m v)) (suc (top 64) - suc x) (suc x) ≡ None
  none_after h e = past 64 m v (suc x) (omega arith) h (omega (arith, set_mask))

  next_after : NextWhole (suc x + (m - v)) m (bit_or (bit_or x m + 1) m)
  next_after =
      subst (λ (n : ℕ). NextWhole (suc x + (m - v)) m (bit_or n m)) (sym (add-one (bit_or x m)))
      (subst (λ (n : ℕ). NextWhole n m (bit_or (suc (bit_or x m)) m)) set_mask (whole_after (bit_or x m) m (or_twice x m)))

  pub after_gap : m - v ≤ bit_or (bit_or x m + 1) m
  after_gap = omega (arith, next_after.high)

  pub found_after : bit_and v m ≡ v → m < 2 ^ 64 → bit_or x m + 1 < 2 ^ 64
      → first (has_bits (Bits m v)) (suc (top 64) - suc x) (suc x) ≡ Some (bit_or (bit_or x m + 1) m - (m - v))
  found_after t h l = found_next 64 m v (suc x) _ next_after t (omega (arith, or_lt 64 (bit_or x m + 1) m l h, top-suc 64))
