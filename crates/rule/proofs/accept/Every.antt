-- A test of a whole list that looks at one element after the other: what is left of it where a loop stands. A loop passes
-- all of a list l, or its first n elements. Assumes nothing.
use mathlib.Core.Path.{◌≡◌, refl, sym, ap, ap₂, ◌∙◌}
use mathlib.Core.Bool.{Bool, true, false, ◌&&◌, and_assoc}
use mathlib.Core.List.{List, [], ◌∷◌, ◌++◌}
use Prim.Native.Nat.{ℕ, zero, suc, ◌+◌, ◌≤◌, ◌<◌}
use native.Mathlib.Numerals.{add-one}
use native.Mathlib.Omega.{arith}
use lib.ListN.{drop, drop_of_length-le, get_or, length, replicate, take}
use lib.Seq.{drop-cons, get_or-take, length-take-le}
use Rattle.word.proofs.Tests.{both_pass}
use Rattle.rule.specs.accept.Accept.{every}

-- g looks at the first element by f, and at the rest by k
pub record Opens {A : Type 0} (f : A → Bool) (g : List A → Bool) (k : A → List A → Bool) : Type 0 where
  pub opens : (x : A) (xs : List A) → g (x ∷ xs) ≡ (f x && k x xs)

module _ {A : Type 0} {f : A → Bool} {g : List A → Bool} {k : A → List A → Bool} (o : Opens f g k) where
  -- x stands at i
  opened : (l : List A) (i : ℕ) (d x : A) (b : Bool) → i < length l → get_or l i d ≡ x → f x ≡ b → g (drop i l) ≡ (b && k x (drop (i + 1) l))
  opened l i d x b h here e = rw (add-one, drop-cons l i d h, o.opens, here, e)

  front : (n : ℕ) (l : List A) (i : ℕ) (d : A) (b : Bool) → n ≤ length l → i < n → f (get_or l i d) ≡ b → g (drop i (take n l)) ≡ (b && k (get_or l i d) (drop (i + 1) (take n l)))
  front n l i d b long h e =
      let size = length-take-le n l long in opened (take n l) i d (get_or l i d) b (omega arith) (get_or-take n l i d h) e

  module _ (l : List A) (i : ℕ) (d : A) where
    pub goes : i < length l → f (get_or l i d) ≡ true → g (drop i l) ≡ k (get_or l i d) (drop (i + 1) l)
    goes h e = opened l i d (get_or l i d) true h refl e

    pub stops : i < length l → f (get_or l i d) ≡ false → g (drop i l) ≡ false
    stops h e = opened l i d (get_or l i d) false h refl e

    pub front_goes : (n : ℕ) → n ≤ length l → i < n → f (get_or l i d) ≡ true → g (drop i (take n l)) ≡ k (get_or l i d) (drop (i + 1) (take n l))
    front_goes n long h e = front n l i d true long h e

    pub front_stops : (n : ℕ) → n ≤ length l → i < n → f (get_or l i d) ≡ false → g (drop i (take n l)) ≡ false
    front_stops n long h e = front n l i d false long h e

pub every_opens : {A : Type 0} (f : A → Bool) → Opens f (every f) (λ x xs. every f xs)
unfolding every
every_opens f = record { opens = λ x xs. refl }

module _ {A : Type 0} (g : List A → Bool) (l : List A) (i : ℕ) where
  pub ends : length l ≤ i → g (drop i l) ≡ g []
  ends h = ap g (drop_of_length-le l {i = i} h)

  pub front_ends : (n : ℕ) → n ≤ length l → n ≤ i → g (drop i (take n l)) ≡ g []
  front_ends n long h =
      let size = length-take-le n l long in ap g (drop_of_length-le (take n l) {i = i} (omega arith))

-- ---- tests of joined and of even lists

module _ {A : Type 0} (f : A → Bool) where
  pub every_append : (xs ys : List A) → every f (xs ++ ys) ≡ (every f xs && every f ys)
  unfolding every
  every_append [] ys = refl
  every_append (x ∷ xs) ys = ap (λ (b : Bool). f x && b) (every_append xs ys) ∙ sym (and_assoc (f x) (every f xs) (every f ys))

  module _ (z : A) where
    pub every_even : f z ≡ true → (n : ℕ) → every f (replicate n z) ≡ true
    unfolding every
    every_even e zero = refl
    every_even e (suc n) = ap₂ ◌&&◌ e (every_even e n)

    pub even_every : ((x : A) → f x ≡ true → x ≡ z) → (xs : List A) → every f xs ≡ true → xs ≡ replicate (length xs) z
    unfolding every
    even_every h [] e = refl
    even_every h (x ∷ xs) e =
        let t = both_pass (f x) (every f xs) e in ap₂ ◌∷◌ (h x t.0) (even_every h xs t.1)
