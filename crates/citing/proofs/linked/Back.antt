-- What the desk writes for a link reads back as that link: its digits are read off the places where they were written. Assumes nothing.
use mathlib.Core.Path.{◌≡◌, refl, sym, ap, ◌∙◌}
use mathlib.Core.Bool.{true, false, false≢true}
use mathlib.Core.List.{List, [], ◌∷◌}
use Prim.Native.Nat.{ℕ, zero, suc, ◌-◌, ◌<◌}
use native.Mathlib.Omega.{arith}
use borrow.Author.Tests.{eq-eqb, ne_eqb}
use lib.ListN.{get_or, length, take}
use lib.Seq.{take_all}
use Rattle.word.specs.declared.Edition.{Edition}
use Rattle.word.specs.declared.Edition.TheVariants.{New, Old}
use Rattle.word.specs.Edition.{terms}
use Rattle.word.proofs.Tests.{both_pass}
use Rattle.digits.specs.hexadecimal.Hex.{all_digits, is_digit, number}
use Rattle.chain.specs.Links.{link}
use Rattle.frame.specs.fields.Answers.{LINKED, link_line}
use Rattle.frame.specs.fields.Fields.{BYTE, InDigits, Line, WORD, byte, digits_in}
use Rattle.frame.proofs.fields.Fields.{digits_digits, fields_read, fields_at, length_digits, total}
use Rattle.std.specs.Prelude.{Some}
use Rattle.citing.specs.linked.Linked.{bare, bare_end, end_of, is_link, link_in, link_of}

digit_at : (l : List ℕ) (i : ℕ) → all_digits l ≡ true → i < length l → is_digit (get_or l i 0) ≡ true
unfolding all_digits
digit_at [] i t h = absurd (omega arith)
digit_at (b ∷ l) zero t h = (both_pass (is_digit b) (all_digits l) t).0
digit_at (b ∷ l) (suc i) t h = digit_at l i (both_pass (is_digit b) (all_digits l) t).1 (omega arith)

-- digits have no byte 13 at their end
bare_digits : (l : List ℕ) → all_digits l ≡ true → 0 < length l → bare l ≡ l
unfolding bare bare_end is_digit
bare_digits l t h =
    let d = digit_at l (length l - 1) t (omega arith) in
    rw (ne_eqb (get_or l (length l - 1) 0) 13 (λ e. false≢true (ap is_digit (sym e) ∙ d))) (take_all (length l) l (omega arith))

module _ (e : Edition) (from to reason : ℕ) (h : InDigits (link_line e from to reason)) where
  abbrev written : List ℕ
  written = digits_in (link_line e from to reason)

  abbrev read : fields_at 0 (BYTE ∷ WORD e ∷ WORD e ∷ BYTE ∷ []) written ≡ link_line e from to reason
  read = fields_read [] 0 (link_line e from to reason) refl h

  long : length written ≡ end_of (WORD e)
  unfolding total
  long = omega (arith, length_digits (link_line e from to reason))

  abbrev number_in : ℕ → Line → ℕ
  number_in k l = (get_or l k (byte 0)).number

  is_link_lem : is_link e written ≡ true
  unfolding is_link fields_at
  is_link_lem =
      rw (eq-eqb (length written) (end_of (WORD e)) long, digits_digits (link_line e from to reason))
      (eq-eqb (number (take BYTE written)) LINKED (ap (number_in 0) read))

  link_is : link_of (WORD e) written ≡ link from to reason
  unfolding link_of fields_at
  link_is = ap (λ (l : Line). link (number_in 1 l) (number_in 2 l) (number_in 3 l)) read

-- a link of another length is none of the edition
not_old : (l : List ℕ) → length l ≡ end_of (WORD New) → is_link Old l ≡ false
unfolding is_link terms
not_old l k = rw (ne_eqb (length l) (end_of (WORD Old)) (λ e. omega arith))

-- a line that the desk writes for a link is read as that link
pub desk_reads_back : (e : Edition) (from to reason : ℕ) → InDigits (link_line e from to reason)
    → link_in (digits_in (link_line e from to reason)) ≡ Some (link from to reason)
unfolding link_in terms
desk_reads_back Old from to reason h =
    let l = written Old from to reason h in
    let n = long Old from to reason h in
    rw (bare_digits l (digits_digits (link_line Old from to reason)) (omega arith), is_link_lem Old from to reason h)
    (ap Some (link_is Old from to reason h))
desk_reads_back New from to reason h =
    let l = written New from to reason h in
    let n = long New from to reason h in
    rw (bare_digits l (digits_digits (link_line New from to reason)) (omega arith), not_old l n, is_link_lem New from to reason h)
    (ap Some (link_is New from to reason h))
