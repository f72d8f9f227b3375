-- Lines of two bytes: which of them are frames. Digits that are read and written again are the same digits. Assumes nothing.
use mathlib.Core.Path.{◌≡◌, refl, sym, ap, ◌∙◌}
use mathlib.Core.Bool.{Bool, true, false}
use mathlib.Core.List.{List, [], ◌∷◌}
use Prim.Native.Nat.{ℕ, ◌-◌, ◌≤◌}
use native.Mathlib.Omega.{arith}
use borrow.Author.Tests.{le-leb, ne_eqb}
use lib.ListN.{drop_of_length-le, get_or, length}
use lib.Seq.{drop-cons, take_all}
use Rattle.digits.specs.hexadecimal.Hex.{all_digits, glyph, hex, is_digit, number, number_from, value}
use Rattle.digits.proofs.hexadecimal.Inverse.{digits_back}
use Rattle.frame.specs.fields.Fields.{BYTE}
use Rattle.frame.specs.declared.Frame.TheVariants.{NoFrame}
use Rattle.frame.specs.route.Reading.{bare, by_digits, frame_of}
use Rattle.frame.proofs.Rows.{bare_row, no_digits}

-- the line of a code below 10
alone : (b : ℕ) → 48 ≤ b → b ≤ 57 → bare (b - 48) ≡ frame_of (48 ∷ b ∷ [])
unfolding frame_of by_digits all_digits is_digit number number_from value
alone b h k = rw (le-leb 48 b h, le-leb b 57 k) (ap bare (omega arith))

module _ (l : List ℕ) (two : length l ≡ BYTE) where
  bytes : l ≡ get_or l 0 0 ∷ get_or l 1 0 ∷ []
  bytes = drop-cons l 0 0 (omega arith) ∙ ap (λ (r : List ℕ). get_or l 0 0 ∷ r) (drop-cons l 1 0 (omega arith) ∙ ap (λ (r : List ℕ). get_or l 1 0 ∷ r) (drop_of_length-le l {i = 2} (omega arith)))

  pub code_row : get_or l 0 0 ≡ 48 → 48 ≤ get_or l 1 0 → get_or l 1 0 ≤ 57 → bare (get_or l 1 0 - 48) ≡ frame_of l
  code_row z h k = alone (get_or l 1 0) h k ∙ ap frame_of (sym (bytes ∙ ap (λ (a : ℕ). a ∷ get_or l 1 0 ∷ []) z))

  module _ (n : get_or l 0 0 ≡ 48 → 51 ≤ get_or l 1 0 → get_or l 1 0 ≤ 54 → ⊥) where
    -- digits that write a code are those of the code
    other : all_digits l ≡ true → (k : ℕ) → get_or (hex BYTE k) 0 0 ≡ 48 → (51 ≤ get_or (hex BYTE k) 1 0) × (get_or (hex BYTE k) 1 0 ≤ 54) → number l ≡ k → ⊥
    other t k z h e =
        let q = sym (digits_back BYTE l two t) ∙ ap (hex BYTE) e in
        let a = ap (λ (m : List ℕ). get_or m 0 0) q in
        let b = ap (λ (m : List ℕ). get_or m 1 0) q in
        n (a ∙ z) (omega (arith, b, h.0)) (omega (arith, b, h.1))

    no_code : all_digits l ≡ true → NoFrame ≡ bare (number l)
    unfolding bare hex glyph
    no_code t =
        rw (ne_eqb (number l) 3 (other t 3 refl (omega arith, omega arith)), ne_eqb (number l) 4 (other t 4 refl (omega arith, omega arith)), ne_eqb (number l) 5 (other t 5 refl (omega arith, omega arith)), ne_eqb (number l) 6 (other t 6 refl (omega arith, omega arith)))

    by_digits_lem : (b : Bool) → all_digits l ≡ b → NoFrame ≡ frame_of l
    by_digits_lem false t = no_digits l t
    by_digits_lem true t = no_code t ∙ ap (λ (m : List ℕ). bare (number m)) (sym (take_all BYTE l (omega arith))) ∙ bare_row l t two

    pub no_row_alone : NoFrame ≡ frame_of l
    no_row_alone = by_digits_lem (all_digits l) refl
