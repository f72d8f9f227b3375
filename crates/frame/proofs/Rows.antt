-- Which row of the frames a line's length and code pick. Assumes nothing.
use mathlib.Core.Path.{◌≡◌, refl}
use mathlib.Core.Bool.{Bool, true, false, and-false}
use mathlib.Core.List.{List}
use Prim.Native.Nat.{ℕ, ◌<◌}
use native.Mathlib.Omega.{arith}
use borrow.Author.Tests.{eq-eqb, ne_eqb}
use lib.ListN.{length, take}
use lib.Seq.{slice}
use Rattle.word.specs.declared.Edition.{Edition}
use Rattle.word.specs.declared.Edition.TheVariants.{New, Old}
use Rattle.word.specs.Edition.{terms}
use Rattle.page.specs.Page.{at_width}
use Rattle.digits.specs.hexadecimal.Hex.{all_digits, number}
use Rattle.frame.specs.frame_numbers.route.Numbers.{OPENING, adding, code_edition, rule_of}
use Rattle.frame.specs.declared.Frame.TheVariants.{Add, NoFrame, Open}
use Rattle.frame.specs.fields.Fields.{BYTE, WORD}
use Rattle.frame.specs.route.Reading.{LONGEST, bare, by_digits, frame_of, numbered}
use Rattle.word.proofs.Editions.{digits_held}

-- an edition's codes are its own
pub opens_own : (e : Edition) → code_edition (terms e).opens ≡ e
unfolding code_edition terms
opens_own Old = refl
opens_own New = refl

pub adds_own : (e : Edition) → code_edition (terms e).adds ≡ e
unfolding code_edition terms
adds_own Old = refl
adds_own New = refl

module _ (e : Edition) (code : ℕ) (l : List ℕ) where
  pub open_row : length l ≡ OPENING → code ≡ (terms e).opens → Open (at_width (number (slice BYTE OPENING l)) e) ≡ numbered e code l
  unfolding numbered
  open_row h k = rw (eq-eqb (length l) OPENING h, eq-eqb code (terms e).opens k)

  pub no_open : length l ≡ OPENING → (code ≡ (terms e).opens → ⊥) → NoFrame ≡ numbered e code l
  unfolding numbered
  no_open h k = rw (ne_eqb code (terms e).opens k, and-false, ne_eqb (length l) (adding e) (λ q. omega arith))

  pub add_row : length l ≡ adding e → code ≡ (terms e).adds → Add e (rule_of (WORD e) l) ≡ numbered e code l
  unfolding numbered
  add_row h k = rw (ne_eqb (length l) OPENING (λ q. omega arith), eq-eqb (length l) (adding e) h, eq-eqb code (terms e).adds k)

  pub no_add : length l ≡ adding e → (code ≡ (terms e).adds → ⊥) → NoFrame ≡ numbered e code l
  unfolding numbered
  no_add h k = rw (ne_eqb (length l) OPENING (λ q. omega arith), ne_eqb code (terms e).adds k, and-false)

  pub no_row : (length l ≡ OPENING → ⊥) → (length l ≡ adding e → ⊥) → NoFrame ≡ numbered e code l
  unfolding numbered
  no_row h k = rw (ne_eqb (length l) OPENING h, ne_eqb (length l) (adding e) k)

module _ (l : List ℕ) where
  pub no_digits : all_digits l ≡ false → NoFrame ≡ frame_of l
  unfolding frame_of
  no_digits t = rw t

  module _ (t : all_digits l ≡ true) where
    pub bare_row : length l ≡ BYTE → bare (number (take BYTE l)) ≡ frame_of l
    unfolding frame_of by_digits
    bare_row e = rw (t, e)

    pub numbers_row : (length l ≡ BYTE → ⊥) → numbered (code_edition (number (take BYTE l))) (number (take BYTE l)) l ≡ frame_of l
    unfolding frame_of by_digits
    numbers_row n = rw (t, ne_eqb (length l) BYTE n)

  -- a line that has not as many digits as a frame is none
  short_digits : (b : Bool) → all_digits l ≡ b → (length l ≡ BYTE → ⊥) → (length l ≡ OPENING → ⊥) → ((e : Edition) → length l ≡ adding e → ⊥) → NoFrame ≡ frame_of l
  short_digits true t a b c = rw (← numbers_row t a) (no_row _ _ l b (c _))
  short_digits false t a b c = no_digits t

  pub too_short : length l < BYTE → NoFrame ≡ frame_of l
  too_short h = short_digits (all_digits l) refl (λ q. omega arith) (λ q. omega arith) (λ e q. omega arith)

  pub too_long : LONGEST < length l → NoFrame ≡ frame_of l
  too_long h = short_digits (all_digits l) refl (λ q. omega arith) (λ q. omega arith) (λ e q. omega (arith, digits_held e))
