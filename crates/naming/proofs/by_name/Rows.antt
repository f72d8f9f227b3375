-- The bytes of a name in its row, two texts compared byte by byte, and rows looked at one after another.
use mathlib.Core.Path.{◌≡◌, refl, ap, ◌∙◌}
use mathlib.Core.Bool.{Bool, true, false, cond, ◌&&◌}
use mathlib.Core.List.{List, [], ◌∷◌}
use Prim.Native.Nat.{ℕ, zero, suc, ◌≤◌, ◌<◌}
use native.Mathlib.Omega.{arith}
use borrow.Author.Tests.{eq-eqb, ne_eqb}
use lib.Dec.{eqb}
use lib.ListN.{drop, drop_of_length-le, get_or, length, length-take, take}
use lib.Seq.{drop-cons, get_or-take}
use Rattle.std.specs.Prelude.{Some, None}
use Rattle.naming.specs.Names.{before_zero, name_in}
use Rattle.naming.specs.by_name.Which.{has_name, number_from, same}

-- the bytes of a name are those of its row, and there are no more of them
byte : (b : ℕ) (l : List ℕ) (i : ℕ) (t : Bool)
    → ((j : ℕ) → j < length (before_zero l) → (get_or (before_zero l) j 0 ≡ get_or l j 0) × (j < length l))
    → i < length (cond t [] (b ∷ before_zero l))
    → (get_or (cond t [] (b ∷ before_zero l)) i 0 ≡ get_or (b ∷ l) i 0) × (i < length (b ∷ l))
byte b l i true f h = absurd (omega arith)
byte b l zero false f h = (refl, omega arith)
byte b l (suc i) false f h = let p = f i (omega arith) in (p.0, omega (arith, p.1))

name_byte : (l : List ℕ) (i : ℕ) → i < length (before_zero l) → (get_or (before_zero l) i 0 ≡ get_or l i 0) × (i < length l)
unfolding before_zero
name_byte [] i h = absurd (omega arith)
name_byte (b ∷ l) i h = byte b l i (eqb b 0) (λ j g. name_byte l j g) h

pub byte_in : (row : List ℕ) (i : ℕ) → i < length (name_in row) → (get_or (name_in row) i 0 ≡ get_or row i 0) × (i < 1024)
unfolding name_in
byte_in row i h =
    let p = name_byte (take 1024 row) i h in
    let s : i < 1024 = omega (arith, p.1, length-take 1024 row) in
    (p.0 ∙ get_or-take 1024 row i 0 s, s)

-- texts of two lengths are two
pub unlike : (a b : List ℕ) → (length a ≡ length b → ⊥) → same a b ≡ false
unfolding same
unlike [] [] n = absurd (n refl)
unlike [] (y ∷ b) n = refl
unlike (x ∷ a) [] n = refl
unlike (x ∷ a) (y ∷ b) n = rw (unlike a b (λ e. n (ap suc e))) (and_false (eqb x y))
  where
    and_false : (t : Bool) → (t && false) ≡ false
    and_false true = refl
    and_false false = refl

module _ (a b : List ℕ) (i : ℕ) (in_a : i < length a) (in_b : i < length b) where
  -- a byte that both have is passed
  pub alike_on : get_or a i 0 ≡ get_or b i 0 → same (drop i a) (drop i b) ≡ same (drop (suc i) a) (drop (suc i) b)
  unfolding same
  alike_on e = rw (drop-cons a i 0 in_a, drop-cons b i 0 in_b, eq-eqb (get_or a i 0) (get_or b i 0) e)

  pub differ_on : (get_or a i 0 ≡ get_or b i 0 → ⊥) → same (drop i a) (drop i b) ≡ false
  unfolding same
  differ_on n = rw (drop-cons a i 0 in_a, drop-cons b i 0 in_b, ne_eqb (get_or a i 0) (get_or b i 0) n)

-- both are at their end
pub alike_all : (a b : List ℕ) (n : ℕ) → n ≡ length a → n ≡ length b → same (drop n a) (drop n b) ≡ true
unfolding same
alike_all a b n e f = rw (drop_of_length-le a {i = n} (omega arith), drop_of_length-le b {i = n} (omega arith))

-- a row with no bytes has no name
unnamed : (name : List ℕ) → has_name name [] ≡ false
unfolding has_name name_in before_zero same
unnamed [] = refl
unnamed (b ∷ name) = refl

step : (name : List ℕ) (l : List (List ℕ)) (i j : ℕ) → number_from j (drop i l) name ≡ cond (has_name name (get_or l i [])) (Some j) (number_from (suc j) (drop (suc i) l) name)
unfolding number_from
step name [] zero j = rw unnamed
step name [] (suc i) j = rw unnamed
step name (row ∷ l) zero j = refl
step name (row ∷ l) (suc i) j = step name l i j

-- the rows from one on, of so many
pub from_on : (name : List ℕ) (rows : List (List ℕ)) (m i : ℕ) → i < m
    → number_from i (drop i (take m rows)) name ≡ cond (has_name name (get_or rows i [])) (Some i) (number_from (suc i) (drop (suc i) (take m rows)) name)
from_on name rows m i h = rw (← get_or-take m rows i [] h) (step name (take m rows) i i)

-- no row is left
pub none_on : (name : List ℕ) (rows : List (List ℕ)) (m i : ℕ) → m ≤ i → number_from i (drop i (take m rows)) name ≡ None
unfolding number_from
none_on name rows m i h = rw (drop_of_length-le (take m rows) {i = i} (omega (arith, length-take m rows)))
