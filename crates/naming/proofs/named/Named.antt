-- The rows hold the clerk's list after each accepted statement: what is put is the row of the name, which has that name; and what is put lies past
-- the rules in force. Assumes nothing.
use mathlib.Core.Path.{◌≡◌, refl, sym, ap, ◌∙◌}
use mathlib.Core.Bool.{Bool, true, false, false≢true, not, ◌&&◌, cond}
use mathlib.Core.List.{List, [], ◌∷◌, ◌++◌, append_assoc}
use Prim.Native.Nat.{ℕ, zero, suc, ◌+◌, ◌-◌, ◌≤◌, ◌<◌, min}
use native.Mathlib.Omega.{arith}
use borrow.Author.Tests.{eqb-true, ltb-false, ltb-true}
use mathlib.Core.Logic.{⊎_elim, inl, inr, ◌⊎◌}
use lib.Dec.{eqb, ltb}
use lib.ListN.{get_or-append, drop, get_or, get_or-replicate, length, length-append, length-drop, length-replicate, length-take, replicate, take}
use lib.Seq.{get_or-append-add, get_or-take, length-sets, sets, sets-eq, take_all}
use Rattle.line.specs.declared.Statement.{Statement}
use Rattle.naming.specs.Names.{before_zero, kept, name_in, new_rules, put, row_of}
use Rattle.naming.proofs.Rows.{put_nothing}
use Rattle.naming.specs.named.Named.{Holds, Said, names_after, next, no_zero, nothing}

zeros_end : (n m : ℕ) → before_zero (drop n (replicate m 0)) ≡ []
unfolding before_zero
zeros_end zero zero = refl
zeros_end zero (suc m) = refl
zeros_end (suc n) zero = refl
zeros_end (suc n) (suc m) = zeros_end n m

named_byte : (b : ℕ) (t : Bool) (bs rest : List ℕ) → (not t && no_zero bs) ≡ true → (no_zero bs ≡ true → before_zero rest ≡ bs) → cond t [] (b ∷ before_zero rest) ≡ b ∷ bs
named_byte b true bs rest e f = absurd (false≢true e)
named_byte b false bs rest e f = ap (λ (l : List ℕ). b ∷ l) (f e)

before_name : (name rest : List ℕ) → no_zero name ≡ true → before_zero rest ≡ [] → before_zero (name ++ rest) ≡ name
unfolding before_zero no_zero
before_name [] rest e z = z
before_name (b ∷ bs) rest e z = named_byte b (eqb b 0) bs (bs ++ rest) e (λ q. before_name bs rest q z)

-- the row of a name has that name
pub row_names : (name : List ℕ) → no_zero name ≡ true → length name ≤ 1024 → name_in (row_of name) ≡ name
unfolding name_in row_of
row_names name e h =
    let zeros : List ℕ = replicate 1024 0 in
    let row = sets-eq name zeros 0 (omega (arith, length-replicate {A = ℕ} 1024 0)) in
    let rest : List ℕ = drop (0 + length name) zeros in
    let full : length (name ++ rest) ≤ 1024 = omega (arith, length-append name rest, length-drop (0 + length name) zeros, length-replicate {A = ℕ} 1024 0) in
    ap (λ (l : List ℕ). before_zero (take 1024 l)) row ∙ ap before_zero (take_all 1024 (name ++ rest) full) ∙ before_name name rest e (zeros_end (0 + length name) 1024)

module _ (rows : List (List ℕ)) (count k : ℕ) (row : List ℕ) (full : length rows ≡ 200) (room : count + k ≤ 200) where
  -- what is put stands between what stood before it and after it
  put_parts : put row k count rows ≡ take count rows ++ (replicate k row ++ drop (count + length (replicate k row)) rows)
  unfolding put
  put_parts =
      let e : min k (200 - count) ≡ k = omega arith in
      ap (λ (n : ℕ). sets rows count (replicate n row)) e
      ∙ sets-eq (replicate k row) rows count (omega (arith, length-replicate k row))
      ∙ append_assoc (take count rows) (replicate k row) (drop (count + length (replicate k row)) rows)

  taken : length (take count rows) ≡ count
  taken = omega (arith, length-take count rows)

  -- below the rules in force the rows are as they were
  pub put_below : (i : ℕ) → i < count → get_or (put row k count rows) i [] ≡ get_or rows i []
  put_below i h =
      ap (λ (l : List (List ℕ)). get_or l i []) put_parts
      ∙ get_or-append (take count rows) (replicate k row ++ drop (count + length (replicate k row)) rows) [] i (omega (arith, taken))
      ∙ get_or-take count rows i [] h

  -- and the new rules have the row
  pub put_new : (j : ℕ) → j < k → get_or (put row k count rows) (count + j) [] ≡ row
  put_new j h =
      let rest : List (List ℕ) = drop (count + length (replicate k row)) rows in
      ap (λ (l : List (List ℕ)). get_or l (count + j) []) put_parts
      ∙ ap (λ (n : ℕ). get_or (take count rows ++ (replicate k row ++ rest)) (n + j) []) (sym taken)
      ∙ get_or-append-add (take count rows) (replicate k row ++ rest) j []
      ∙ get_or-append (replicate k row) rest [] j (omega (arith, length-replicate k row))
      ∙ get_or-replicate k j row [] h

-- a place of the list is below the rules in force, or that of a new rule
split : (count k i : ℕ) → i < count + k → (i < count) ⊎ ((count ≤ i) × (i - count < k))
split count k i h = by_test (ltb i count) refl
  where
    by_test : (t : Bool) → ltb i count ≡ t → (i < count) ⊎ ((count ≤ i) × (i - count < k))
    by_test true e = inl (ltb-true i count e)
    by_test false e = let g = ltb-false i count e in inr (g, omega arith)

module _ (rows ns : List (List ℕ)) (count : ℕ) (name : List ℕ) (full : length rows ≡ 200) (fits : no_zero name ≡ true) (short : length name ≤ 1024) (covered : count ≤ length ns) where
  cut : length (take count ns) ≡ count
  cut = omega (arith, length-take count ns)

  added : (k : ℕ) → count + k ≤ 200 → Holds rows ns → Holds (put (row_of name) k count rows) (take count ns ++ replicate k name)
  added k room holds = record {
    same = λ i h.
        ⊎_elim
        (λ (b : i < count).
        ap name_in (put_below rows count k (row_of name) full room i b)
        ∙ holds.same i (omega arith)
        ∙ sym (get_or-take count ns i [] b)
        ∙ sym (get_or-append (take count ns) (replicate k name) [] i (omega (arith, cut))))
        (λ (n : (count ≤ i) × (i - count < k)).
        let e : i ≡ count + (i - count) = omega arith in
        ap (λ (m : ℕ). name_in (get_or (put (row_of name) k count rows) m [])) e
        ∙ ap name_in (put_new rows count k (row_of name) full room (i - count) n.1)
        ∙ row_names name fits short
        ∙ sym (get_or-replicate k (i - count) name [] n.1)
        ∙ sym (get_or-append-add (take count ns) (replicate k name) (i - count) [])
        ∙ ap (λ (m : ℕ). get_or (take count ns ++ replicate k name) (m + (i - count)) []) cut
        ∙ ap (λ (m : ℕ). get_or (take count ns ++ replicate k name) m []) (sym e))
        (split count k i (omega (arith, h, length-append (take count ns) (replicate k name), length-replicate k name, cut)));
  }

  -- the rows hold the list after a statement as before it
  pub holds_after : (st : Statement) → count + new_rules st ≤ 200 → Holds rows ns → Holds (kept st count name rows) (names_after st count name ns)
  unfolding kept names_after
  holds_after st room holds = by_test (new_rules st) room (eqb (new_rules st) 0) refl
    where
      by_test : (k : ℕ) → count + k ≤ 200 → (t : Bool) → eqb k 0 ≡ t → Holds (put (row_of name) k count rows) (cond t ns (take count ns ++ replicate k name))
      by_test k r true e = rw (eqb-true k 0 e) (rw (put_nothing (row_of name) count rows) holds)
      by_test k r false e = added k r holds

-- there are as many rows as before
pub kept-length : (st : Statement) (count : ℕ) (name : List ℕ) (rows : List (List ℕ)) → length (kept st count name rows) ≡ length rows
unfolding kept put
kept-length st count name rows = length-sets rows count (replicate (min (new_rules st) (200 - count)) (row_of name))

-- After any accepted statements each row has the name that the list has.
pub always_held : {rows ns rows' ns' : List (List ℕ)} → length rows ≡ 200 → Holds rows ns → Said rows ns rows' ns' → Holds rows' ns'
always_held full holds nothing = holds
always_held {rows} {ns} full holds (next st count name covered room fits short more) =
    always_held (kept-length st count name rows ∙ full) (holds_after rows ns count name full fits short covered st room holds) more

-- So it is from the start on, whatever the rows hold then: nothing has a name yet.
pub from_the_start : {rows rows' ns' : List (List ℕ)} → length rows ≡ 200 → Said rows [] rows' ns' → Holds rows' ns'
from_the_start full said = always_held full (record { same = λ i h. absurd (omega arith) }) said
