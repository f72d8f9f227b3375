-- An answer's line is written by its numbers, one after the other, and a byte 10. Assumes nothing.
use mathlib.Core.Path.{◌≡◌, refl, sym, ap, ◌∙◌}
use mathlib.Core.Bool.{Bool, true, false, cond}
use mathlib.Core.List.{List, [], ◌∷◌, ◌++◌, append_assoc, append-nil}
use Prim.Native.Nat.{ℕ, zero, suc, ◌+◌, ◌*◌, ◌≤◌, ◌<◌}
use native.Mathlib.Nat.{add-zero}
use native.Mathlib.Omega.{arith}
use borrow.Author.Tests.{ne_eqb}
use lib.Dec.{eqb}
use lib.ListN.{drop, get_or, length, length-append, set}
use lib.Seq.{drop-cons, get_or-drop, length-sets, sets}
use Rattle.word.specs.declared.Edition.{Edition}
use Rattle.search.specs.declared.verdict.Kept.{Kept}
use Rattle.digits.specs.hexadecimal.Hex.{Written, hex}
use Rattle.digits.proofs.hexadecimal.Digits.{and_then, length-hex}
use Rattle.frame.specs.declared.fields.Field.{Field}
use Rattle.frame.specs.fields.Answers.{ACCEPTED, LINE, NEWLINE, REFUSED, SHORT, answer_bytes, kept_line, line_bytes, link_line, link_lines, number_line}
use Rattle.frame.specs.fields.Fields.{Line, byte, digits_in, field}
use Rattle.frame.specs.fields.Put.{PutAt}
use Rattle.word.proofs.Editions.{digits_held}
use Rattle.frame.proofs.fields.Fields.{length_digits, shape, total}

-- the numbers from one on: that number, and those after it
module _ (l : Line) (i : ℕ) (h : i < length l) where
  abbrev here : Field
  here = get_or l i (field 0 0)

  digits_next : digits_in (drop i l) ≡ hex here.digits here.number ++ digits_in (drop (suc i) l)
  unfolding digits_in
  digits_next = rw (drop-cons l i (field 0 0))

  pub size_next : length (digits_in (drop i l)) ≡ here.digits + length (digits_in (drop (suc i) l))
  size_next =
      ap length digits_next
      ∙ length-append (hex here.digits here.number) _
      ∙ ap (λ (n : ℕ). n + length (digits_in (drop (suc i) l))) (length-hex here.digits here.number)

  pub put_next : {b b' : List ℕ} (at : ℕ) → Written b at (hex here.digits here.number) b'
      → sets b' (at + here.digits) (digits_in (drop (suc i) l)) ≡ sets b at (digits_in (drop i l))
  put_next {b} at u =
      let e = ap (λ (n : ℕ). at + n) (sym (length-hex here.digits here.number)) in
      (and_then {ys = digits_in (drop (suc i) l)} u (record { stands = refl }) e).stands ∙ ap (sets b at) (sym digits_next)

-- numbers that are written, and the byte 10 after them
pub line_put : {b b₁ : List ℕ} {at end : ℕ} (l : Line) → end ≡ at + length (digits_in l) → at + length (line_bytes l) ≤ length b
    → b₁ ≡ sets b at (digits_in l) → PutAt b at (line_bytes l) (set b₁ end NEWLINE) (end + 1)
unfolding line_bytes
line_put l e h w =
    record {
      written = and_then {xs = digits_in l} {ys = NEWLINE ∷ []} (record { stands = w }) (record { stands = refl }) e;
      fits = h;
      ends = rw (length-append (digits_in l) (NEWLINE ∷ [])) (omega arith);
    }

-- numbers in no digits are not there
pub accepted : line_bytes (byte ACCEPTED ∷ field 0 0 ∷ field 0 0 ∷ field 0 0 ∷ []) ≡ line_bytes (number_line 0)
unfolding line_bytes digits_in number_line hex
accepted = refl

pub refused : (n : ℕ) → (n ≡ 0 → ⊥) → line_bytes (byte REFUSED ∷ byte n ∷ field 0 0 ∷ field 0 0 ∷ []) ≡ line_bytes (number_line n)
unfolding line_bytes digits_in number_line hex
refused n h = rw (ne_eqb n 0 h)

-- an answer of one line
pub one_line : {b b' : List ℕ} {at end : ℕ} (l : Line) → PutAt b at (line_bytes l) b' end → PutAt b at (answer_bytes (l ∷ [])) b' end
unfolding answer_bytes
one_line l p = rw (append-nil (line_bytes l)) p

pub put_on : {b b₁ b₂ : List ℕ} {at m n : ℕ} {xs ys : List ℕ} → PutAt b at xs b₁ m → PutAt b₁ m ys b₂ n → PutAt b at (xs ++ ys) b₂ n
put_on {b} {at} {xs} {ys} u v =
    let same = ap length u.written.stands ∙ length-sets b at xs in
    record {
      written = and_then u.written v.written u.ends;
      fits = rw (length-append xs ys) (omega (arith, u.ends, v.fits));
      ends = rw (length-append xs ys) (omega (arith, u.ends, v.ends));
    }

pub put_none : (b : List ℕ) (at : ℕ) → at ≤ length b → PutAt b at [] b at
put_none b at h = record { written = record { stands = refl }; fits = omega arith; ends = sym (add-zero at) }

-- ---- how long lines are

pub with_end : (l : Line) → length (line_bytes l) ≡ length (digits_in l) + 1
unfolding line_bytes
with_end l = length-append (digits_in l) (NEWLINE ∷ [])

length_line : (l : Line) → length (line_bytes l) ≡ total (shape l) + 1
length_line l = with_end l ∙ ap (λ (n : ℕ). n + 1) (length_digits l)

pub length_number : (n : ℕ) → length (line_bytes (number_line n)) ≤ SHORT
unfolding number_line total
length_number n = go (eqb n 0)
  where
    go : (t : Bool) → length (line_bytes (cond t (byte ACCEPTED ∷ []) (byte REFUSED ∷ byte n ∷ []))) ≤ SHORT
    go true = rw length_line (omega arith)
    go false = rw length_line (omega arith)

module _ (d : Edition) where
  pub length_kept : (k : Kept) → length (line_bytes (kept_line d k)) ≤ LINE
  unfolding total
  length_kept k = rw (length_line (kept_line d k)) (omega (arith, digits_held d))

  pub length_link : (from to reason : ℕ) → length (line_bytes (link_line d from to reason)) ≤ LINE
  unfolding total
  length_link from to reason = rw (length_line (link_line d from to reason)) (omega (arith, digits_held d))

  pub length_links : (n : ℕ) (b : List ℕ) → length (answer_bytes (link_lines d n b)) ≤ LINE * n
  unfolding link_lines answer_bytes
  length_links zero b = omega arith
  length_links (suc n) b =
      let l : Line = link_line d (get_or b 0 0) (get_or b 1 0) (get_or b 2 0) in
      rw (length-append (line_bytes l) (answer_bytes (link_lines d n (drop 3 b))))
      (omega (arith, length_link (get_or b 0 0) (get_or b 1 0) (get_or b 2 0), length_links n (drop 3 b)))

  -- one link more is the next three numbers of the buffer
  pub links_next : (n : ℕ) (b : List ℕ)
      → answer_bytes (link_lines d (suc n) b) ≡ answer_bytes (link_lines d n b) ++ line_bytes (link_line d (get_or b (3 * n) 0) (get_or b (3 * n + 1) 0) (get_or b (3 * n + 2) 0))
  unfolding link_lines answer_bytes
  links_next zero b = append-nil _
  links_next (suc n) b =
      let e : 3 + 3 * n ≡ 3 * suc n = omega arith in
      let e₁ : 3 + (3 * n + 1) ≡ 3 * suc n + 1 = omega arith in
      let e₂ : 3 + (3 * n + 2) ≡ 3 * suc n + 2 = omega arith in
      rw (links_next n (drop 3 b), get_or-drop 3 b (3 * n) 0, get_or-drop 3 b (3 * n + 1) 0, get_or-drop 3 b (3 * n + 2) 0, e, e₁, e₂)
      (sym (append_assoc (line_bytes (link_line d (get_or b 0 0) (get_or b 1 0) (get_or b 2 0))) (answer_bytes (link_lines d n (drop 3 b))) _))
