-- Reading and writing frames undo each other: a line is read as a frame just where it is that frame. Assumes nothing.
use mathlib.Core.Path.{◌≡◌, refl, sym, ap, subst, ◌∙◌}
use mathlib.Core.Bool.{Bool, true, false}
use mathlib.Core.List.{List, [], ◌∷◌}
use Prim.Native.Nat.{ℕ, ◌+◌, ◌<◌, ◌^◌}
use native.Mathlib.Decide.{ℕ_discrete}
use native.Mathlib.Omega.{arith}
use borrow.Author.Tests.{ne_eqb}
use lib.ListN.{get_or, length, take}
use lib.Seq.{take_all}
use Rattle.word.specs.declared.Edition.{Edition}
use Rattle.word.specs.Edition.{terms}
use Rattle.rule.specs.Meaning.{rule}
use Rattle.page.specs.Page.{at_width}
use Rattle.digits.specs.hexadecimal.Hex.{all_digits, number}
use Rattle.frame.specs.frame_numbers.route.Numbers.{OPENING, adding, code_edition, rule_of}
use Rattle.frame.specs.declared.Frame.{Frame}
use Rattle.frame.specs.declared.Frame.TheVariants.{Add, Ask, Back, Forward, Mark, NoFrame, Open}
use Rattle.frame.specs.fields.Fields.{BYTE, InDigits, Line, WORD, byte, digits_in}
use Rattle.frame.specs.Frames.{IsFrame, fields_of}
use Rattle.frame.specs.route.Reading.{bare, frame_of, numbered}
use Rattle.frame.proofs.fields.Fields.{digits_digits, fields_fit, fields_read, fields_written, fields_at, length_digits, total}
use Rattle.frame.proofs.Rows.{add_row, adds_own, bare_row, no_add, no_digits, no_open, no_row, numbers_row, open_row, opens_own}

-- ---- a line that is read as a frame is that frame

module _ (l : List ℕ) (some : frame_of l ≡ NoFrame → ⊥) (t : all_digits l ≡ true) where
  -- what is read off all its digits
  as_read : {f : Frame} (ds : List ℕ) → f ≡ frame_of l → fields_of f ≡ fields_at 0 ds l → total ds ≡ length l → IsFrame l (frame_of l)
  as_read {f} ds q e k =
      let g = ap fields_of (sym q) ∙ e in
      record {
        some = some;
        written = sym (ap digits_in g ∙ fields_written l t 0 ds (omega arith) ∙ take_all (0 + total ds) l (omega arith));
        fits = rw g (fields_fit l t 0 ds (omega arith));
      }

  abbrev code : ℕ
  code = number (take BYTE l)

  -- its first number is its code
  code_is : (k : ℕ) (rest : Line) → code ≡ k → byte k ∷ rest ≡ byte code ∷ rest
  code_is k rest e = ap (λ (n : ℕ). byte n ∷ rest) (sym e)

  bare_is : length l ≡ BYTE → IsFrame l (frame_of l)
  unfolding bare fields_of fields_at total
  bare_is e = go (ℕ_discrete code 3) (ℕ_discrete code 4) (ℕ_discrete code 5) (ℕ_discrete code 6)
    where
      told : (k : ℕ) → code ≡ k → bare k ≡ frame_of l
      told k q = ap bare (sym q) ∙ bare_row l t e

      go : Dec (code ≡ 3) → Dec (code ≡ 4) → Dec (code ≡ 5) → Dec (code ≡ 6) → IsFrame l (frame_of l)
      go (yes q) b c d = as_read (BYTE ∷ []) (told 3 q) (code_is 3 [] q) (sym e)
      go (no a) (yes q) c d = as_read (BYTE ∷ []) (told 4 q) (code_is 4 [] q) (sym e)
      go (no a) (no b) (yes q) d = as_read (BYTE ∷ []) (told 5 q) (code_is 5 [] q) (sym e)
      go (no a) (no b) (no c) (yes q) = as_read (BYTE ∷ []) (told 6 q) (code_is 6 [] q) (sym e)
      go (no a) (no b) (no c) (no d) = absurd (some (sym (bare_row l t e) ∙ rw (ne_eqb code 3 a, ne_eqb code 4 b, ne_eqb code 5 c, ne_eqb code 6 d)))

  -- the edition of its code
  abbrev d : Edition
  d = code_edition code

  module _ (more : length l ≡ BYTE → ⊥) where
    abbrev row : numbered d code l ≡ frame_of l
    row = numbers_row l t more

    open_is : length l ≡ OPENING → Dec (code ≡ (terms d).opens) → IsFrame l (frame_of l)
    unfolding fields_of fields_at total
    open_is e (yes k) = as_read (BYTE ∷ BYTE ∷ []) (open_row d code l e k ∙ row) (code_is (terms d).opens _ k) (sym e)
    open_is e (no k) = absurd (some (sym (no_open d code l e k ∙ row)))

    add_is : length l ≡ adding d → Dec (code ≡ (terms d).adds) → IsFrame l (frame_of l)
    unfolding fields_of fields_at total rule_of
    add_is e (yes k) = as_read (BYTE ∷ BYTE ∷ BYTE ∷ WORD d ∷ WORD d ∷ []) (add_row d code l e k ∙ row) (code_is (terms d).adds _ k) (omega arith)
    add_is e (no k) = absurd (some (sym (no_add d code l e k ∙ row)))

    numbers_are : IsFrame l (frame_of l)
    numbers_are = go (ℕ_discrete (length l) OPENING) (ℕ_discrete (length l) (adding d))
      where
        go : Dec (length l ≡ OPENING) → Dec (length l ≡ adding d) → IsFrame l (frame_of l)
        go (yes e) c = open_is e (ℕ_discrete code (terms d).opens)
        go (no b) (yes e) = add_is e (ℕ_discrete code (terms d).adds)
        go (no b) (no c) = absurd (some (sym (no_row d code l b c ∙ row)))

  digits_are : IsFrame l (frame_of l)
  digits_are = elim (ℕ_discrete (length l) BYTE) [ yes e ↦ bare_is e | no n ↦ numbers_are n ]

read_is : (l : List ℕ) → (frame_of l ≡ NoFrame → ⊥) → IsFrame l (frame_of l)
read_is l some = go (all_digits l) refl
  where
    go : (b : Bool) → all_digits l ≡ b → IsFrame l (frame_of l)
    go true t = digits_are l some t
    go false t = absurd (some (sym (no_digits l t)))

-- ---- a line that is a frame is read as that frame

abbrev number_in : ℕ → Line → ℕ
number_in k l = (get_or l k (byte 0)).number

bare_back : (k : ℕ) → k < 16 ^ BYTE → frame_of (digits_in (byte k ∷ [])) ≡ bare k
unfolding fields_at total InDigits
bare_back k h =
    let l = byte k ∷ [] in
    sym (bare_row (digits_in l) (digits_digits l) (length_digits l)) ∙ ap bare (ap (number_in 0) (fields_read [] 0 l refl (h, tt)))

-- digits with numbers after their code are read in the edition of the code
numbered_back : (l : Line) (e : Edition) → BYTE < length (digits_in l) → code_edition (number (take BYTE (digits_in l))) ≡ e
    → frame_of (digits_in l) ≡ numbered e (number (take BYTE (digits_in l))) (digits_in l)
numbered_back l e h q =
    sym (numbers_row (digits_in l) (digits_digits l) (λ z. omega arith)) ∙ ap (λ (k : Edition). numbered k (number (take BYTE (digits_in l))) (digits_in l)) q

written_back : (f : Frame) → (f ≡ NoFrame → ⊥) → InDigits (fields_of f) → frame_of (digits_in (fields_of f)) ≡ f
unfolding fields_of fields_at total bare rule_of
written_back (Open g) n h =
    let e : Edition = g.edition in
    let l = fields_of (Open g) in
    let b = fields_read [] 0 l refl h in
    numbered_back l e (omega (arith, length_digits l)) (ap code_edition (ap (number_in 0) b) ∙ opens_own e)
    ∙ sym (open_row e _ (digits_in l) (length_digits l) (ap (number_in 0) b))
    ∙ ap (λ (w : ℕ). Open (at_width w e)) (ap (number_in 1) b)
written_back (Add e r) n h =
    let l = fields_of (Add e r) in
    let b = fields_read [] 0 l refl h in
    numbered_back l e (omega (arith, length_digits l)) (ap code_edition (ap (number_in 0) b) ∙ adds_own e)
    ∙ sym (add_row e _ (digits_in l) (omega (arith, length_digits l)) (ap (number_in 0) b))
    ∙ ap (λ (k : Line). Add e (rule (number_in 1 k) (number_in 2 k) (number_in 3 k) (number_in 4 k))) b
written_back Mark n h = bare_back 3 (omega arith)
written_back Back n h = bare_back 4 (omega arith)
written_back Ask n h = bare_back 5 (omega arith)
written_back Forward n h = bare_back 6 (omega arith)
written_back NoFrame n h = absurd (n refl)

-- a line is read as a frame just where it is that frame: its digits, which its numbers fit
pub read_written : (l : List ℕ) (f : Frame) → ((f ≡ NoFrame → ⊥) → frame_of l ≡ f → IsFrame l f) × (IsFrame l f → frame_of l ≡ f)
read_written l f = (
  λ n e. subst (IsFrame l) e (read_is l (λ q. n (sym e ∙ q))),
  λ h. ap frame_of h.written ∙ written_back f h.some h.fits,
)

-- "a line of the program's input is none of the frames": just where it is read so
none_dec : (f : Frame) → Dec (f ≡ NoFrame)
none_dec (Open g) = no (λ e. let z : ◌≡◌ {A = ℕ} 0 1 = cc in omega arith)
none_dec (Add e r) = no (λ e. let z : ◌≡◌ {A = ℕ} 0 1 = cc in omega arith)
none_dec Mark = no (λ e. let z : ◌≡◌ {A = ℕ} 0 1 = cc in omega arith)
none_dec Back = no (λ e. let z : ◌≡◌ {A = ℕ} 0 1 = cc in omega arith)
none_dec Ask = no (λ e. let z : ◌≡◌ {A = ℕ} 0 1 = cc in omega arith)
none_dec Forward = no (λ e. let z : ◌≡◌ {A = ℕ} 0 1 = cc in omega arith)
none_dec NoFrame = yes refl

pub none_read : (l : List ℕ) → (frame_of l ≡ NoFrame → (f : Frame) → IsFrame l f → ⊥) × (((f : Frame) → IsFrame l f → ⊥) → frame_of l ≡ NoFrame)
none_read l = (λ e f h. h.some (sym ((read_written l f).1 h) ∙ e), λ n. go n (none_dec (frame_of l)))
  where
    go : ((f : Frame) → IsFrame l f → ⊥) → Dec (frame_of l ≡ NoFrame) → frame_of l ≡ NoFrame
    go n (yes e) = e
    go n (no k) = absurd (n (frame_of l) (read_is l k))
