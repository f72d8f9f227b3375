-- Rows put one after another, and the name in a row, byte by byte.
use mathlib.Core.Path.{◌≡◌, refl, ap}
use mathlib.Core.Bool.{Bool, true, false, cond, not}
use mathlib.Core.List.{List, [], ◌∷◌}
use Prim.Native.Nat.{ℕ, zero, suc, ◌+◌, ◌-◌, ◌≤◌, ◌<◌, min}
use native.Mathlib.Decide.{dec_lt}
use native.Mathlib.Omega.{arith}
use borrow.Author.Tests.{eq-eqb, le-ltb, lt-ltb, ne_eqb}
use lib.Dec.{eqb, ltb}
use lib.ListN.{drop, get_or, length, replicate, set, take}
use lib.Seq.{sets, take_all}
use Rattle.std.specs.Prelude.{None, Some, position, unwrap_or}
use Rattle.std.specs.List.{position_or_len}
use Rattle.std.proofs.lemmas.List.Recursion.{is_position_or_len}
use Rattle.std.proofs.lemmas.List.Sums.{prefix_len-le-length}
use Rattle.line.specs.Line.{LIMIT}
use Rattle.naming.specs.Names.{before_zero, name_in, put}

-- a row is put, and then as many as are left
pub put_one : (row : List ℕ) (n at : ℕ) (rows : List (List ℕ)) → at < 200 → put row (suc n) at rows ≡ put row n (suc at) (set rows at row)
unfolding put
put_one row n at rows h =
    let e : min (suc n) (200 - at) ≡ suc (min n (200 - suc at)) = omega arith in ap (λ (k : ℕ). sets rows at (replicate k row)) e

-- no room is left
pub put_none : (row : List ℕ) (n at : ℕ) (rows : List (List ℕ)) → 200 ≤ at → put row n at rows ≡ rows
unfolding put
put_none row n at rows h =
    let e : min n (200 - at) ≡ 0 = omega arith in ap (λ (k : ℕ). sets rows at (replicate k row)) e

pub put_nothing : (row : List ℕ) (at : ℕ) (rows : List (List ℕ)) → put row 0 at rows ≡ rows
unfolding put
put_nothing row at rows =
    let e : min 0 (200 - at) ≡ 0 = omega arith in ap (λ (k : ℕ). sets rows at (replicate k row)) e

-- a zero byte ends the name, and so does the end of the row
pub name_ends : (l : List ℕ) (i : ℕ) → get_or l i 0 ≡ 0 → before_zero (drop i l) ≡ []
unfolding before_zero
name_ends [] zero e = refl
name_ends [] (suc i) e = refl
name_ends (b ∷ l) zero e = rw (eq-eqb b 0 e)
name_ends (b ∷ l) (suc i) e = name_ends l i e

-- any other is a byte of it
pub name_goes_on : (l : List ℕ) (i : ℕ) → (get_or l i 0 ≡ 0 → ⊥) → before_zero (drop i l) ≡ get_or l i 0 ∷ before_zero (drop (suc i) l)
unfolding before_zero
name_goes_on [] zero n = absurd (n refl)
name_goes_on [] (suc i) n = absurd (n refl)
name_goes_on (b ∷ l) zero n = rw (ne_eqb b 0 n)
name_goes_on (b ∷ l) (suc i) n = name_goes_on l i n

-- what is past the row is no name
pub name_full : (n : ℕ) (l : List ℕ) → before_zero (drop n (take n l)) ≡ []
unfolding before_zero
name_full zero l = refl
name_full (suc n) [] = refl
name_full (suc n) (b ∷ l) = name_full n l

-- how long a name is: up to the first zero byte of its row, or as long as the row
before_length : (l : List ℕ) → length (before_zero l) ≡ position_or_len (λ b. eqb b 0) l
unfolding before_zero
before_length = is_position_or_len (λ l. length (before_zero l)) (λ b. eqb b 0) refl more
  where
    pick : (t : Bool) (b : ℕ) (bs : List ℕ) → length (cond t [] (b ∷ bs)) ≡ cond t 0 (1 + length bs)
    pick true b bs = refl
    pick false b bs = omega arith

    more : (b : ℕ) (l : List ℕ) → length (cond (eqb b 0) [] (b ∷ before_zero l)) ≡ cond (eqb b 0) 0 (1 + length (before_zero l))
    more b l = pick (eqb b 0) b (before_zero l)

pub row_length : (row : List ℕ) → length row ≡ LIMIT → unwrap_or (position (λ b. eqb b 0) row) LIMIT ≡ length (name_in row)
unfolding name_in
row_length row e =
    let all : take LIMIT row ≡ row = take_all LIMIT row (omega arith) in
    rw (all, before_length row) (go (position_or_len (λ b. eqb b 0) row) (prefix_len-le-length (λ b. not (eqb b 0)) row))
  where
    go : (n : ℕ) → n ≤ length row → unwrap_or (cond (ltb n (length row)) (Some n) None) LIMIT ≡ n
    go n h = pick (dec_lt n (length row))
      where
        pick : Dec (n < length row) → unwrap_or (cond (ltb n (length row)) (Some n) None) LIMIT ≡ n
        pick (yes l) = rw (lt-ltb n (length row) l) refl
        pick (no l) = rw (le-ltb n (length row) (omega arith)) (omega arith)
