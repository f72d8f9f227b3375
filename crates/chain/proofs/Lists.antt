-- Laws of lists in general: the next element of a list, and a part pasted over a tail. Assumes nothing.
use mathlib.Core.Path.{◌≡◌, sym, ap, ap₂, ◌∙◌}
use mathlib.Core.List.{List, [], ◌∷◌, ◌++◌, append_assoc}
use Prim.Native.Nat.{ℕ, suc, ◌+◌, ◌<◌}
use native.Mathlib.Omega.{arith}
use lib.ListN.{drop, get_or, length, length-drop, take}
use lib.Seq.{drop_at, drop-cons, drop-drop, take_at, take-suc}

module _ {A : Type 0} where
  -- x is element i of the list, and xs are those after it
  pub record Next (l : List A) (i : ℕ) (x : A) (xs : List A) : Type 0 where
    pub there : i < length l
    pub taken : take (suc i) l ≡ take i l ++ (x ∷ [])
    pub left : drop (suc i) l ≡ xs

  pub next_of : (l : List A) (i : ℕ) (x : A) (xs : List A) → drop i l ≡ x ∷ xs → Next l i x xs
  next_of l i x xs e =
      let there : i < length l = omega (arith, ap length e, length-drop i l) in
      let d = drop-cons l i x there in
      let at : get_or l i x ≡ x = cc in
      record { there = there; taken = take-suc l i x there ∙ ap (λ (y : A). take i l ++ (y ∷ [])) at; left = cc }

  -- ys pasted behind xs, over the tail that stands there
  pub paste_on : (xs ys l m : List A) (n k : ℕ) → length xs ≡ n → l ≡ xs ++ drop n m → take n l ++ (ys ++ drop (n + k) l) ≡ (xs ++ ys) ++ drop (n + k) m
  paste_on xs ys l m n k e d =
      ap₂ (λ (fs bs : List A). fs ++ (ys ++ bs)) front back ∙ sym (append_assoc xs ys (drop (n + k) m))
    where
      front : take n l ≡ xs
      front = ap (take n) d ∙ take_at xs (drop n m) n e

      back : drop (n + k) l ≡ drop (n + k) m
      back = sym (drop-drop k n l) ∙ ap (drop k) (ap (drop n) d ∙ drop_at xs (drop n m) n e) ∙ drop-drop k n m
