-- Numbers in so many digits, one after another, are read off the places where they were written, and written again as they stood.
-- Assumes nothing.
use mathlib.Core.Path.{◌≡◌, refl, sym, ap, ap₂, subst, ◌∙◌}
use mathlib.Core.Bool.{true}
use mathlib.Core.List.{List, [], ◌∷◌, ◌++◌, append_assoc, append-nil, map}
use Prim.Native.Nat.{ℕ, ◌+◌, ◌^◌, ◌≤◌, ◌<◌}
use native.Mathlib.Nat.{add_assoc, add-zero}
use native.Mathlib.Omega.{arith}
use lib.ListN.{drop, length, length-append, take, take-append-drop}
use lib.Seq.{drop_at, length-slice, slice, take_at, take-take}
use Rattle.digits.specs.hexadecimal.Hex.{all_digits, hex, number}
use Rattle.digits.proofs.hexadecimal.Digits.{length-hex}
use Rattle.digits.proofs.hexadecimal.Inverse.{all_digits_more, all_digits_parts, digits_back, hex_back, hex_digits, number_below}
use Rattle.frame.specs.declared.fields.Field.{Field}
use Rattle.frame.specs.fields.Fields.{InDigits, Line, digits_in, field}

-- how many digits
unfoldable pub total : List ℕ → ℕ
total [] = 0
total (d ∷ ds) = d + total ds

-- the digits that each number of a line has
abbrev pub shape : Line → List ℕ
shape l = map (λ (f : Field). f.digits) l

-- the numbers that stand in bytes from a place on, each in so many digits
unfoldable pub fields_at : ℕ → List ℕ → List ℕ → Line
fields_at p [] bs = []
fields_at p (d ∷ ds) bs = field d (number (slice p (p + d) bs)) ∷ fields_at (p + d) ds bs

pub length_digits : (l : Line) → length (digits_in l) ≡ total (shape l)
unfolding digits_in total
length_digits [] = refl
length_digits (f ∷ l) =
    length-append (hex f.digits f.number) (digits_in l) ∙ ap₂ ◌+◌ (length-hex f.digits f.number) (length_digits l)

pub digits_digits : (l : Line) → all_digits (digits_in l) ≡ true
unfolding digits_in all_digits
digits_digits [] = refl
digits_digits (f ∷ l) = rw (all_digits_more (hex f.digits f.number) (digits_in l), hex_digits, digits_digits l)

-- what was written is read: numbers that fit their digits
pub fields_read : (xs : List ℕ) (p : ℕ) (l : Line) → length xs ≡ p → InDigits l → fields_at p (shape l) (xs ++ digits_in l) ≡ l
unfolding fields_at digits_in InDigits
fields_read xs p [] e h = refl
fields_read xs p (f ∷ l) e h =
    let d = hex f.digits f.number in
    let n : length (xs ++ d) ≡ p + f.digits = length-append xs d ∙ ap₂ ◌+◌ e (length-hex f.digits f.number) in
    let q : slice p (p + f.digits) (xs ++ (d ++ digits_in l)) ≡ d =
    ap (λ (bs : List ℕ). slice p (p + f.digits) bs) (sym (append_assoc xs d (digits_in l)))
    ∙ ap (drop p) (take_at (xs ++ d) (digits_in l) (p + f.digits) n)
    ∙ drop_at xs d p e in
    ap₂ (λ (x : ℕ) (ls : Line). field f.digits x ∷ ls)
    (ap number q ∙ hex_back f.digits f.number h.0)
    (ap (λ (bs : List ℕ). fields_at (p + f.digits) (shape l) bs) (sym (append_assoc xs d (digits_in l))) ∙ fields_read (xs ++ d) (p + f.digits) l n h.1)

-- what is read off digits is written as they stood, and fits
module _ (bs : List ℕ) (t : all_digits bs ≡ true) where
  slice_digits : (m n : ℕ) → all_digits (slice m n bs) ≡ true
  slice_digits m n =
      let u = (all_digits_parts (take n bs) (drop n bs) (ap all_digits (take-append-drop n bs) ∙ t)).0 in
      (all_digits_parts (take m (take n bs)) (slice m n bs) (ap all_digits (take-append-drop m (take n bs)) ∙ u)).1

  module _ (p d : ℕ) (h : p + d ≤ length bs) where
    slice-length : length (slice p (p + d) bs) ≡ d
    slice-length = length-slice p (p + d) bs h ∙ omega arith

    slice_joins : take p bs ++ hex d (number (slice p (p + d) bs)) ≡ take (p + d) bs
    slice_joins =
        ap₂ ◌++◌ (sym (take-take p (p + d) bs (omega arith))) (digits_back d (slice p (p + d) bs) slice-length (slice_digits p (p + d)))
        ∙ take-append-drop p (take (p + d) bs)

    slice_fits : number (slice p (p + d) bs) < 16 ^ d
    slice_fits = subst (λ (n : ℕ). number (slice p (p + d) bs) < 16 ^ n) slice-length (number_below (slice p (p + d) bs) (slice_digits p (p + d)))

  pub fields_written : (p : ℕ) (ds : List ℕ) → p + total ds ≤ length bs → take p bs ++ digits_in (fields_at p ds bs) ≡ take (p + total ds) bs
  unfolding fields_at digits_in total
  fields_written p [] h = append-nil (take p bs) ∙ ap (λ (n : ℕ). take n bs) (sym (add-zero p))
  fields_written p (d ∷ ds) h =
      sym (append_assoc (take p bs) _ _)
      ∙ ap (λ (l : List ℕ). l ++ digits_in (fields_at (p + d) ds bs)) (slice_joins p d (omega arith))
      ∙ fields_written (p + d) ds (omega arith)
      ∙ ap (λ (n : ℕ). take n bs) (add_assoc p d (total ds))

  pub fields_fit : (p : ℕ) (ds : List ℕ) → p + total ds ≤ length bs → InDigits (fields_at p ds bs)
  unfolding fields_at InDigits total
  fields_fit p [] h = tt
  fields_fit p (d ∷ ds) h = (slice_fits p d (omega arith), fields_fit (p + d) ds (omega arith))
