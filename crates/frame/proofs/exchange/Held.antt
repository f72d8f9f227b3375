-- What is held of a line: its first bytes. Assumes nothing.
use mathlib.Core.Path.{◌≡◌, refl, sym, ap, ◌∙◌}
use mathlib.Core.Bool.{Bool, true, false}
use mathlib.Core.List.{List, [], ◌∷◌, ◌++◌, append_assoc, append-nil}
use Prim.Native.Nat.{ℕ, zero, suc, ◌+◌, ◌≤◌, ◌<◌}
use native.Mathlib.Nat.{min-le_right}
use native.Mathlib.Numerals.{add-one}
use native.Mathlib.Omega.{arith}
use borrow.Author.Tests.{le-ltb, lt-ltb, ltb-false, ltb-true}
use lib.Dec.{ltb}
use lib.ListN.{drop, get_or, length, length-append, length-set, length-take, set, take}
use lib.Seq.{drop-cons, length-take-le, take_all, take_at, take-suc-set}
use Rattle.frame.specs.Calls.{call_of, line_call}
use Rattle.frame.specs.route.Reading.{frame_of}
use Rattle.frame.proofs.Rows.{too_long}
use Rattle.frame.specs.declared.exchange.Begun.{Begun}
use Rattle.frame.specs.exchange.route.Begun.{HELD, begins, begun_line, joined, put}

pub put_more : (g : Begun) (b : ℕ) → g.len < HELD → put g b ≡ begins (set g.bytes g.len b) (suc g.len)
unfolding put
put_more g b h = rw (lt-ltb g.len HELD h)

put_full : (g : Begun) (b : ℕ) → HELD ≤ g.len → put g b ≡ g
unfolding put
put_full g b h = rw (le-ltb g.len HELD h)

-- where enough is held, more of the line changes nothing
pub joined_full : (g : Begun) (bs : List ℕ) → HELD ≤ g.len → joined g bs ≡ g
unfolding joined
joined_full g [] h = refl
joined_full g (b ∷ bs) h = rw (put_full g b h) (joined_full g bs h)

-- a byte of the slice more
pub joined_next : (g : Begun) (s : List ℕ) (i : ℕ) → i < length s → joined g (drop i s) ≡ joined (put g (get_or s i 0)) (drop (suc i) s)
unfolding joined
joined_next g s i h = rw (drop-cons s i 0)

-- ---- the bytes that are held are the line's first

pub take-take_append : (n : ℕ) (xs ys : List ℕ) → take n (take n xs ++ ys) ≡ take n (xs ++ ys)
take-take_append zero xs ys = refl
take-take_append (suc n) [] ys = refl
take-take_append (suc n) (x ∷ xs) ys = ap (λ (l : List ℕ). x ∷ l) (take-take_append n xs ys)

-- as many places as are held
abbrev pub Whole : Begun → Type 0
Whole g = length g.bytes ≡ HELD

pub put_whole : (g : Begun) (b : ℕ) → Whole g → Whole (put g b)
put_whole g b w = go (ltb g.len HELD) refl
  where
    go : (t : Bool) → ltb g.len HELD ≡ t → length (put g b).bytes ≡ HELD
    go true e = rw (put_more g b (ltb-true g.len HELD e)) (length-set g.bytes g.len b ∙ w)
    go false e = rw (put_full g b (ltb-false g.len HELD e)) w

pub put_held : (g : Begun) (b : ℕ) → Whole g → begun_line (put g b) ≡ take HELD (begun_line g ++ b ∷ [])
unfolding begun_line
put_held g b w = go (ltb g.len HELD) refl
  where
    more : g.len < HELD → begun_line (put g b) ≡ take HELD (take g.len g.bytes ++ b ∷ [])
    more h =
        let k : length (take g.len g.bytes ++ b ∷ []) ≡ suc g.len =
        length-append (take g.len g.bytes) (b ∷ []) ∙ ap (λ (n : ℕ). n + 1) (length-take-le g.len g.bytes (omega arith)) ∙ add-one g.len in
        rw (put_more g b h) (take-suc-set g.bytes g.len b (omega arith) ∙ sym (take_all HELD _ (omega arith)))

    full : HELD ≤ g.len → begun_line (put g b) ≡ take HELD (take g.len g.bytes ++ b ∷ [])
    full h = rw (put_full g b h, take_all g.len g.bytes (omega arith)) (sym (take_at g.bytes (b ∷ []) HELD w))

    go : (t : Bool) → ltb g.len HELD ≡ t → begun_line (put g b) ≡ take HELD (take g.len g.bytes ++ b ∷ [])
    go true e = more (ltb-true g.len HELD e)
    go false e = full (ltb-false g.len HELD e)

held_length : (g : Begun) → Whole g → length (begun_line g) ≤ HELD
unfolding begun_line
held_length g w = rw (length-take g.len g.bytes, w) (min-le_right g.len HELD)

pub joined_held : (g : Begun) (bs : List ℕ) → Whole g → begun_line (joined g bs) ≡ take HELD (begun_line g ++ bs)
unfolding joined
joined_held g [] w =
    sym (ap (take HELD) (append-nil (begun_line g)) ∙ take_all HELD (begun_line g) (held_length g w))
joined_held g (b ∷ bs) w =
    joined_held (put g b) bs (put_whole g b w)
    ∙ ap (λ (l : List ℕ). take HELD (l ++ bs)) (put_held g b w)
    ∙ take-take_append HELD (begun_line g ++ b ∷ []) bs
    ∙ ap (take HELD) (append_assoc (begun_line g) (b ∷ []) bs)

-- ---- they tell which frame the line is

pub cut_frame : (l : List ℕ) → frame_of (take HELD l) ≡ frame_of l
cut_frame l = go (ltb (length l) HELD) refl
  where
    long : HELD ≤ length l → frame_of (take HELD l) ≡ frame_of l
    long h =
        let k = length-take-le HELD l h in
        sym (too_long (take HELD l) (omega arith)) ∙ too_long l (omega arith)

    go : (t : Bool) → ltb (length l) HELD ≡ t → frame_of (take HELD l) ≡ frame_of l
    go true e = ap frame_of (take_all HELD l (omega (arith, ltb-true (length l) HELD e)))
    go false e = long (ltb-false (length l) HELD e)

pub cut_call : (l : List ℕ) → line_call (take HELD l) ≡ line_call l
unfolding line_call
cut_call l = ap call_of (cut_frame l)

-- a line of which nothing is held yet
pub first_frame : (g : Begun) (l : List ℕ) → Whole g → g.len ≡ 0 → frame_of (begun_line (joined g l)) ≡ frame_of l
unfolding begun_line
first_frame g l w e = ap frame_of (joined_held g l w ∙ ap (λ (n : ℕ). take HELD (take n g.bytes ++ l)) e) ∙ cut_frame l
