-- Which lines are accepted openings: a line is read as an opening just where it is the opening's four digits, and one is accepted just
-- where its width is there. So the pattern, which has these digits, matches no other line. Assumes nothing.
use mathlib.Core.Path.{◌≡◌, refl, sym, ap, ◌∙◌}
use mathlib.Core.List.{List, [], ◌∷◌, ◌++◌, append-nil, flat_map}
use Prim.Native.Nat.{ℕ, zero, suc, ◌+◌, ◌≤◌, ◌<◌, ◌^◌}
use native.Mathlib.Omega.{arith}
use Rattle.word.specs.declared.Edition.{Edition}
use Rattle.word.specs.declared.Edition.TheVariants.{New, Old}
use Rattle.word.specs.Edition.{terms}
use Rattle.page.specs.Calls.{open_at}
use Rattle.page.specs.declared.Opening.{Opening}
use Rattle.page.specs.Page.{at_width, no_page}
use Rattle.page.proofs.Refusals.{open_fits, opened_width}
use Rattle.digits.specs.hexadecimal.Hex.{glyph, hex}
use Rattle.frame.specs.declared.Frame.{Frame}
use Rattle.frame.specs.declared.Frame.TheVariants.{Add, Ask, Back, Forward, Mark, NoFrame, Open}
use Rattle.frame.specs.Calls.{call_of, line_call, makes}
use Rattle.frame.specs.fields.Fields.{BYTE, InDigits, digits_in}
use Rattle.frame.specs.Frames.{IsFrame, fields_of}
use Rattle.frame.specs.route.Reading.{frame_of}
use Rattle.frame.proofs.ReadBack.{read_written}
use Rattle.digits.specs.hexadecimal.Text.{bytes_of}
use Rattle.frame.specs.parts.Parts.{AcceptedOpening, OpeningDigits}
use Rattle.frame.specs.parts.Pattern.{AllOpen, matched_lines, matches, pattern}

-- ---- a line is an accepted opening just where it is these digits

-- an opening's call is made by its frame alone
opens_alone : (f : Frame) (g : Opening) → call_of f ≡ makes (open_at g) → f ≡ Open g
unfolding call_of
opens_alone (Open k) g e = cc
opens_alone (Add d r) g e = let z : ◌≡◌ {A = ℕ} 0 1 = cc in absurd (omega arith)
opens_alone Mark g e = let z : ◌≡◌ {A = ℕ} 0 1 = cc in absurd (omega arith)
opens_alone Back g e = let z : ◌≡◌ {A = ℕ} 0 1 = cc in absurd (omega arith)
opens_alone Ask g e = let z : ◌≡◌ {A = ℕ} 0 1 = cc in absurd (omega arith)
opens_alone Forward g e = let z : ◌≡◌ {A = ℕ} 0 1 = cc in absurd (omega arith)
opens_alone NoFrame g e = let z : ◌≡◌ {A = ℕ} 0 1 = cc in absurd (omega arith)

opening_some : (g : Opening) → Open g ≡ NoFrame → ⊥
opening_some g e = let z : ◌≡◌ {A = ℕ} 0 1 = cc in omega arith

-- an opening's digits; each of its numbers fits two
opening_digits : (g : Opening) → digits_in (fields_of (Open g)) ≡ hex BYTE (terms g.edition).opens ++ hex BYTE g.width
unfolding fields_of digits_in
opening_digits g = ap (λ (l : List ℕ). hex BYTE (terms g.edition).opens ++ l) (append-nil (hex BYTE g.width))

two_digits : (e : Edition) → ((terms e).opens < 16 ^ BYTE) × ((terms e).widest < 16 ^ BYTE)
unfolding terms
two_digits Old = (omega arith, omega arith)
two_digits New = (omega arith, omega arith)

opening_fits : (g : Opening) → g.width ≤ (terms g.edition).widest → InDigits (fields_of (Open g))
unfolding fields_of InDigits
opening_fits g h = let d = two_digits g.edition in (d.0, (omega arith, tt))

accepted_digits : (l : List ℕ) → AcceptedOpening l → OpeningDigits l
unfolding line_call
accepted_digits l h =
    let g : Opening = h.opening in
    let w = opened_width no_page g h.accepted in
    let f = (read_written l (Open g)).0 (opening_some g) (opens_alone (frame_of l) g h.opens) in
    record { edition = g.edition; width = g.width; least = w.0; most = w.1; digits = f.written ∙ opening_digits g }

digits_accepted : (l : List ℕ) → OpeningDigits l → AcceptedOpening l
unfolding line_call call_of
digits_accepted l h =
    let g : Opening = at_width h.width h.edition in
    let d = h.digits ∙ sym (opening_digits g) in
    let f : IsFrame l (Open g) = record { some = opening_some g; written = d; fits = opening_fits g h.most } in
    record { opening = g; opens = ap call_of ((read_written l (Open g)).1 f); accepted = open_fits no_page g h.least h.most }

pub openings : (l : List ℕ) → (AcceptedOpening l → OpeningDigits l) × (OpeningDigits l → AcceptedOpening l)
openings l = (accepted_digits l, digits_accepted l)

-- ---- the pattern matches accepted openings only

abbrev opening_of : Edition → (width : ℕ) → List ℕ
opening_of e w = hex BYTE (terms e).opens ++ hex BYTE w

width_opens : (e : Edition) (w : ℕ) → 1 ≤ w → w ≤ (terms e).widest → AcceptedOpening (opening_of e w)
width_opens e w l m = digits_accepted (opening_of e w) (record { edition = e; width = w; least = l; most = m; digits = refl })

-- the openings of n widths, from w on
openings_from : Edition → (w n : ℕ) → List (List ℕ)
openings_from e w zero = []
openings_from e w (suc n) = opening_of e w ∷ openings_from e (suc w) n

from_open : (e : Edition) (w n : ℕ) → 1 ≤ w → w + n ≤ suc (terms e).widest → AllOpen (openings_from e w n)
unfolding AllOpen openings_from
from_open e w zero l m = tt
from_open e w (suc n) l m = (width_opens e w l (omega arith), from_open e (suc w) n (omega arith) (omega arith))

both_open : (ls ks : List (List ℕ)) → AllOpen ls → AllOpen ks → AllOpen (ls ++ ks)
unfolding AllOpen
both_open [] ks h k = k
both_open (l ∷ ls) ks h k = (h.0, both_open ls ks h.1 k)

abbrev every_opening : Edition → List (List ℕ)
every_opening e = openings_from e 1 (terms e).widest

each_opens : (e : Edition) → AllOpen (every_opening e)
each_opens e = from_open e 1 (terms e).widest (omega arith) (omega arith)

every_width : matched_lines ≡ every_opening Old ++ every_opening New
unfolding matches pattern flat_map bytes_of openings_from hex glyph terms
every_width = refl

pub pattern_opens : AllOpen matched_lines
pattern_opens = rw every_width (both_open (every_opening Old) (every_opening New) (each_opens Old) (each_opens New))
