-- The bytes of a line are the first of the input, up to its byte 10 where there is one. Assumes nothing.
use mathlib.Core.Path.{◌≡◌, refl, sym, ap, subst, ◌∙◌}
use mathlib.Core.List.{List, [], ◌∷◌, ◌++◌}
use Prim.Native.Nat.{ℕ, zero, suc, ◌≤◌, ◌<◌}
use native.Mathlib.Decide.{ℕ_discrete}
use native.Mathlib.Nat.{le_of_suc-le-suc, min-le_right}
use native.Mathlib.Omega.{arith}
use borrow.Author.Tests.{eq-eqb, ne_eqb}
use lib.ListN.{drop, get_or, length, length-take, take}
use lib.Seq.{drop-cons, take_all}
use Rattle.frame.specs.fields.Answers.{NEWLINE}
use Rattle.frame.specs.input_line.Lines.{line_of, with_end}

-- ---- the bytes before the byte 10

module _ (s : List ℕ) (i : ℕ) (h : i < length s) where
  pub line_stops : get_or s i 0 ≡ NEWLINE → line_of (drop i s) ≡ []
  unfolding line_of
  line_stops e = rw (drop-cons s i 0, eq-eqb (get_or s i 0) NEWLINE e)

  pub line_goes : (get_or s i 0 ≡ NEWLINE → ⊥) → line_of (drop i s) ≡ get_or s i 0 ∷ line_of (drop (suc i) s)
  unfolding line_of
  line_goes n = rw (drop-cons s i 0, ne_eqb (get_or s i 0) NEWLINE n)

prefix_step : (b : ℕ) (bs : List ℕ) → take (length (line_of bs)) bs ≡ line_of bs → take (length (line_of (b ∷ bs))) (b ∷ bs) ≡ line_of (b ∷ bs)
unfolding line_of
prefix_step b bs ih = go (ℕ_discrete b NEWLINE)
  where
    go : Dec (b ≡ NEWLINE) → take (length (line_of (b ∷ bs))) (b ∷ bs) ≡ line_of (b ∷ bs)
    go (yes e) = rw (eq-eqb b NEWLINE e)
    go (no n) = rw (ne_eqb b NEWLINE n) (ap (λ (l : List ℕ). b ∷ l) ih)

pub line_prefix : (bs : List ℕ) → take (length (line_of bs)) bs ≡ line_of bs
unfolding line_of
line_prefix [] = refl
line_prefix (b ∷ bs) = prefix_step b bs (line_prefix bs)

-- a list's first elements are no more than it has
prefix_fits : (xs bs : List ℕ) → take (length xs) bs ≡ xs → length xs ≤ length bs
prefix_fits xs bs e = subst (λ (n : ℕ). n ≤ length bs) (sym (length-take (length xs) bs) ∙ ap length e) (min-le_right (length xs) (length bs))

pub line_fits : (bs : List ℕ) → length (line_of bs) ≤ length bs
line_fits bs = prefix_fits (line_of bs) bs (line_prefix bs)

-- ---- those bytes with the byte 10

-- the first bytes are no fewer where only they are asked for
take_again : (n : ℕ) (bs : List ℕ) → take (length (take n bs)) bs ≡ take n bs
take_again zero bs = refl
take_again (suc n) [] = refl
take_again (suc n) (b ∷ bs) = ap (λ (l : List ℕ). b ∷ l) (take_again n bs)

pub end_prefix : (bs : List ℕ) → take (length (with_end bs)) bs ≡ with_end bs
unfolding with_end
end_prefix bs = take_again (suc (length (line_of bs))) bs

pub end_fits : (bs : List ℕ) → length (with_end bs) ≤ length bs
end_fits bs = prefix_fits (with_end bs) bs (end_prefix bs)

pub end_some : (bs : List ℕ) → 0 < length bs → 0 < length (with_end bs)
unfolding with_end
end_some [] h = h
end_some (b ∷ bs) h = omega arith

-- all bytes belong to the line
pub end_none : (bs : List ℕ) → length (line_of bs) ≡ length bs → with_end bs ≡ line_of bs
unfolding with_end
end_none bs h = take_all (suc (length (line_of bs))) bs (omega arith) ∙ sym (take_all (length (line_of bs)) bs (omega arith)) ∙ line_prefix bs

-- the line's byte 10 is there
pub end_there : (bs : List ℕ) → length (line_of bs) < length bs → with_end bs ≡ line_of bs ++ NEWLINE ∷ []
unfolding with_end line_of
end_there [] h = absurd (omega arith)
end_there (b ∷ bs) h = go (ℕ_discrete b NEWLINE) h (end_there bs)
  where
    go : Dec (b ≡ NEWLINE) → length (line_of (b ∷ bs)) < length (b ∷ bs)
        → (length (line_of bs) < length bs → with_end bs ≡ line_of bs ++ NEWLINE ∷ []) → with_end (b ∷ bs) ≡ line_of (b ∷ bs) ++ NEWLINE ∷ []
    go (yes e) k ih = rw (eq-eqb b NEWLINE e) (ap (λ (c : ℕ). c ∷ []) e)
    go (no n) k ih = rw (ne_eqb b NEWLINE n) (ap (λ (l : List ℕ). b ∷ l) (ih (le_of_suc-le-suc (rw (ne_eqb b NEWLINE n) at k))))
