-- Letter by letter the end that a line has is found: after the end so far, or, where a letter to come is no blank, after the last such.
-- Assumes nothing.
use mathlib.Core.Path.{◌≡◌, refl, sym, ◌∙◌}
use mathlib.Core.Bool.{Bool, true, false, cond}
use mathlib.Core.List.{List, [], ◌∷◌}
use Prim.Native.Nat.{ℕ, zero, suc, ◌+◌}
use native.Mathlib.Omega.{arith}
use borrow.Author.Tests.{ne_eqb}
use lib.Dec.{eqb}
use Rattle.line.specs.declared.token.class.Class.TheVariants.{Blank, Comment}
use Rattle.line.specs.token.Token.{class_of, same}
use Rattle.line.specs.line_end.End.{end_of, past_last, uncommented}
use Rattle.line.specs.line_end.route.Course.{end_from, past}

-- the end so far, or the end of the letters from a place on where they have one
abbrev after : (end at own : ℕ) → ℕ
after e at n = cond (eqb n 0) e (at + n)

some : (n : ℕ) → eqb (suc n) 0 ≡ false
some n = ne_eqb (suc n) 0 (λ e. omega arith)

-- one letter more before them
one_more : (blank : Bool) (e at n : ℕ) → after (cond blank e (suc at)) (suc at) n ≡ after e at (cond (eqb n 0) (cond blank 0 1) (suc n))
one_more true e at zero = refl
one_more false e at zero = omega arith
one_more blank e at (suc n) = rw (some n, some (suc n)) (omega arith)

-- up to a comment
stop : (c : Bool) (e at b : ℕ) (bs : List ℕ)
    → end_from (past (class_of b) (suc at) e) (suc at) bs ≡ after (past (class_of b) (suc at) e) (suc at) (past_last (uncommented bs))
    → cond c e (end_from (past (class_of b) (suc at) e) (suc at) bs) ≡ after e at (past_last (cond c [] (b ∷ uncommented bs)))
unfolding past past_last
stop true e at b bs h = refl
stop false e at b bs h = h ∙ one_more (same (class_of b) Blank) e at (past_last (uncommented bs))

course : (e at : ℕ) (l : List ℕ) → end_from e at l ≡ after e at (past_last (uncommented l))
unfolding end_from past_last uncommented
course e at [] = refl
course e at (b ∷ bs) = stop (same (class_of b) Comment) e at b bs (course (past (class_of b) (suc at) e) (suc at) bs)

pub ends : (l : List ℕ) → end_of l ≡ end_from 0 0 l
unfolding end_of
ends l = sym (course 0 0 l ∙ plain (past_last (uncommented l)))
  where
    plain : (n : ℕ) → after 0 0 n ≡ n
    plain zero = refl
    plain (suc n) = rw (some n) (omega arith)
