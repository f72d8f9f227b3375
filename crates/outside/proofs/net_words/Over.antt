-- A list laid over another, element by element, as many as both have: what comes after these is of the longer one, and either the first is
-- used up or the second is. Assumes nothing.
use mathlib.Core.Path.{◌≡◌, refl, sym, ap, ap₂, ◌∙◌}
use mathlib.Core.Bool.{Bool, true, false}
use mathlib.Core.List.{List, map, ◌++◌}
use Prim.Native.Nat.{ℕ, min, ◌+◌, ◌≤◌, ◌<◌}
use native.Mathlib.Nat.{min-eq_left, min-eq_right}
use native.Mathlib.Numerals.{add-one}
use native.Mathlib.Omega.{arith}
use borrow.Author.Tests.{leb-false, leb-true}
use lib.Dec.{leb}
use lib.ListN.{drop, drop_of_length-le, get_or, get_or-map, length, length-map, set, take}
use lib.Seq.{get_or-take, length-take-le, take_all}
use Rattle.search.proofs.rows.Copies.{copied}
use Rattle.outside.specs.net_words.Laid.{laid_over}

module _ {A : Type 0} (l m : List A) where
  -- as many as the shorter one has
  pub all_laid : (i : ℕ) → i ≡ min (length l) (length m) → take i l ++ drop i m ≡ laid_over l m
  unfolding laid_over
  all_laid i e = go (leb (length l) (length m)) refl
    where
      over : length l ≤ length m → take i l ++ drop i m ≡ take (length m) l ++ drop (length l) m
      over h =
          let k : i ≡ length l = e ∙ min-eq_left h in
          ap₂ ◌++◌ (ap (λ (n : ℕ). take n l) k ∙ take_all (length l) l (omega arith) ∙ sym (take_all (length m) l h)) (ap (λ (n : ℕ). drop n m) k)

      under : length m ≤ length l → take i l ++ drop i m ≡ take (length m) l ++ drop (length l) m
      under h =
          let k : i ≡ length m = e ∙ min-eq_right h in
          ap₂ ◌++◌ (ap (λ (n : ℕ). take n l) k)
          (ap (λ (n : ℕ). drop n m) k ∙ drop_of_length-le m {i = length m} (omega arith) ∙ sym (drop_of_length-le m {i = length l} h))

      go : (t : Bool) → leb (length l) (length m) ≡ t → take i l ++ drop i m ≡ take (length m) l ++ drop (length l) m
      go true h = over (leb-true (length l) (length m) h)
      go false h = under (omega (arith, leb-false (length l) (length m) h))

-- the first n rows of a list, read one after another into places that were so at the start
module _ {A B : Type 0} (f : A → B) (rows : List A) (start : List B) (n : ℕ) (few : n ≡ min (length rows) (length start)) where
  many : n ≤ length rows
  many = omega (arith, few)

  -- one row more is read
  pub laid_more : (d : A) (i : ℕ) → i < length (take n rows) → {x : B} → x ≡ f (get_or (take n rows) i d) → {at : List B} → at ≡ take i (map f rows) ++ drop i start
      → set at i x ≡ take (i + 1) (map f rows) ++ drop (i + 1) start
  laid_more d i h p q =
      let size : length (map f rows) ≡ length rows = length-map rows f in
      let long : length (take n rows) ≡ n = length-take-le n rows many in
      ap₂ (λ (l : List B) (v : B). set l i v) q (p ∙ ap f (get_or-take n rows i d (omega arith)) ∙ sym (get_or-map f rows i d))
      ∙ copied (map f rows) start i (f d) (omega arith) (omega (arith, few))
      ∙ ap (λ (j : ℕ). take j (map f rows) ++ drop j start) (sym (add-one i))

  -- all are
  pub laid_all : (i : ℕ) → i ≡ length (take n rows) → {at : List B} → at ≡ take i (map f rows) ++ drop i start → at ≡ laid_over (map f rows) start
  laid_all i e q =
      let size : length (map f rows) ≡ length rows = length-map rows f in
      let long : length (take n rows) ≡ n = length-take-le n rows many in
      q ∙ all_laid (map f rows) start i (e ∙ long ∙ few ∙ ap (λ (k : ℕ). min k (length start)) (sym size))
