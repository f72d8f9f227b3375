-- The old edition's exchange comes out byte for byte as before: on a line without the new frames' codes the same frame is read, it is of
-- the old edition, and on a page of that edition the table and the answers have the numbers that they had. So the page stays one of
-- the old edition, line by line. Assumes nothing.
use mathlib.Core.Path.{◌≡◌, refl, sym, ap, ap₂, ◌∙◌}
use mathlib.Core.Bool.{Bool, true, false, cond, ◌&&◌}
use mathlib.Core.List.{List, [], ◌∷◌, ◌++◌}
use Prim.Native.Nat.{ℕ, ◌≤◌, ◌<◌}
use native.Mathlib.Decide.{dec_le}
use native.Mathlib.Omega.{arith}
use borrow.Author.Tests.{ne_eqb}
use lib.Dec.{eqb}
use lib.ListN.{drop, length, take, take-append-drop}
use lib.Seq.{length-take-le}
use Rattle.word.specs.declared.Edition.TheVariants.{Old}
use Rattle.word.specs.Edition.{same, terms}
use Rattle.rule.specs.declared.Rule.{Rule}
use Rattle.rule.specs.accept.Accept.{bad_constant, bad_form, bad_sense, rule_grounds, stray_bit}
use Rattle.chain.specs.declared.Link.{Link}
use Rattle.page.specs.Calls.{Call, add, after, ask, back, changed, first_that_applies, forward, grounds, mark, open_at, refusal, set_gate, written}
use Rattle.page.specs.declared.Opening.{Opening}
use Rattle.page.specs.Page.{Entry, OpenPage, Page, at_width, edition_of, laid_aside, no_page, page, taken_up}
use Rattle.digits.specs.hexadecimal.Hex.{all_digits, glyph, hex, number}
use Rattle.digits.proofs.hexadecimal.Inverse.{all_digits_parts, digits_back}
use Rattle.frame.specs.declared.Frame.{Frame}
use Rattle.frame.specs.declared.Frame.TheVariants.{Add, Ask, Back, Forward, Mark, NoFrame, Open}
use Rattle.frame.specs.fields.Answers.{answer_bytes, chain_lines, link_line, number_line}
use Rattle.frame.specs.Calls.{MadeCall, asks, call_of, line_call, makes, none}
use Rattle.frame.specs.fields.Fields.{Line}
use Rattle.frame.specs.frame_numbers.route.Numbers.{code_edition, rule_of}
use Rattle.frame.specs.route.Reading.{bare, by_digits, frame_of, numbered}
use Rattle.frame.specs.Pages.{answer_to, page_after}
use Rattle.frame.proofs.Rows.{too_short}
use Rattle.frame.specs.exchange.Before.{OldLine, OldLines, answer_before, answers_before, chain_before, exchange_before, frame_before, grounds_before, page_before, refusal_before}
use Rattle.frame.specs.exchange.route.Begun.{none as no_line}
use Rattle.frame.specs.exchange.route.Desk.{Desk, desk}
use Rattle.frame.specs.exchange.Exchange.{answers_to, exchange, lines}
use Rattle.frame.specs.exchange.route.Statements.{Finished}
use Rattle.frame.specs.exchange.Talk.{Talk}
use Rattle.digits.specs.hexadecimal.Text.{bytes_of}
use Rattle.frame.proofs.exchange.Whole.{any_cut}
use Rattle.sheet.specs.Record.{blank}

-- ---- the same frame is read

-- a line of digits whose code is a new one begins with it
begins_so : (l : List ℕ) (k : ℕ) → 2 ≤ length l → all_digits l ≡ true → number (take 2 l) ≡ k → take 2 l ≡ hex 2 k
begins_so l k h t e =
    let d = (all_digits_parts (take 2 l) (drop 2 l) (ap all_digits (take-append-drop 2 l) ∙ t)).0 in
    sym (ap (hex 2) (sym e) ∙ digits_back 2 (take 2 l) (length-take-le 2 l h) d)

old_code : (l : List ℕ) → OldLine l → 2 ≤ length l → all_digits l ≡ true → code_edition (number (take 2 l)) ≡ Old
unfolding code_edition terms hex glyph bytes_of
old_code l (a, b) h t =
    rw (ne_eqb (number (take 2 l)) 17 (λ e. a (begins_so l 17 h t e)), ne_eqb (number (take 2 l)) 18 (λ e. b (begins_so l 18 h t e)))

module _ (l : List ℕ) (o : OldLine l) where
  short_frame : length l < 2 → all_digits l ≡ true → frame_of l ≡ frame_before l
  unfolding frame_before
  short_frame h t =
      sym (too_short l h)
      ∙ sym (rw (t, ne_eqb (length l) 2 (λ e. omega arith), ne_eqb (length l) 4 (λ e. omega arith), ne_eqb (length l) 22 (λ e. omega arith)))

  long_frame : 2 ≤ length l → all_digits l ≡ true → frame_of l ≡ frame_before l
  unfolding frame_of by_digits bare numbered rule_of terms frame_before
  long_frame h t = rw (t, old_code l o h t)

  same_frame : frame_of l ≡ frame_before l
  unfolding frame_of frame_before
  same_frame = go (all_digits l) refl (dec_le 2 (length l))
    where
      go : (b : Bool) → all_digits l ≡ b → Dec (2 ≤ length l) → frame_of l ≡ frame_before l
      go true t (yes h) = long_frame h t
      go true t (no h) = short_frame (omega arith) t
      go false t h = rw t

-- ---- it is of the old edition

OfOld : Call → Type 0
OfOld (open_at g) = g.edition ≡ Old
OfOld (add e r) = e ≡ Old
OfOld mark = Unit
OfOld back = Unit
OfOld forward = Unit
OfOld (ask m) = Unit
OfOld (set_gate g) = ⊥

OldCall : MadeCall → Type 0
OldCall none = Unit
OldCall (makes c) = OfOld c
OldCall (asks m) = Unit

data OldFrame : Frame → Type 0 where
  opens : (w : ℕ) → OldFrame (Open (at_width w Old))
  adds : (r : Rule) → OldFrame (Add Old r)
  marks : OldFrame Mark
  goes_back : OldFrame Back
  asks_old : OldFrame Ask
  goes_forward : OldFrame Forward
  no_frame : OldFrame NoFrame

old_call : {f : Frame} → OldFrame f → OldCall (call_of f)
unfolding call_of OldCall OfOld
old_call (opens w) = refl
old_call (adds r) = refl
old_call marks = tt
old_call goes_back = tt
old_call asks_old = tt
old_call goes_forward = tt
old_call no_frame = tt

either : (b : Bool) {f g : Frame} → OldFrame f → OldFrame g → OldFrame (cond b f g)
either true p q = p
either false p q = q

old_frame : (l : List ℕ) → OldFrame (frame_before l)
unfolding frame_before
old_frame l =
    let k : ℕ = number (take 2 l) in
    let code = either (eqb k 3) marks (either (eqb k 4) goes_back (either (eqb k 5) asks_old (either (eqb k 6) goes_forward no_frame))) in
    either (all_digits l)
    (either (eqb (length l) 2) code (either (eqb (length l) 4 && eqb k 1) (opens _) (either (eqb (length l) 22 && eqb k 2) (adds _) no_frame)))
    no_frame

-- ---- on a page of the old edition all is as it was

same_chain : (ls : List Link) → chain_lines Old ls ≡ chain_before ls
unfolding chain_lines chain_before terms
same_chain [] = refl
same_chain (l ∷ ls) = ap (λ (o : List Line). link_line Old l.from l.to l.reason ∷ o) (same_chain ls)

taken_opening : (ss : List (List Entry)) (o : OpenPage) → (taken_up ss o).opening ≡ o.opening
unfolding taken_up
taken_opening [] o = refl
taken_opening (s ∷ ss) o = refl

module _ (pg : Page) (h : edition_of pg ≡ Old) where
  same_refusal : (c : Call) → OfOld c → refusal pg c ≡ refusal_before pg c
  unfolding OfOld refusal refusal_before grounds grounds_before rule_grounds bad_form bad_sense bad_constant stray_bit first_that_applies terms same
  same_refusal (open_at g) e = rw e
  same_refusal (add e r) d = rw (d, h)
  same_refusal mark e = refl
  same_refusal back e = refl
  same_refusal forward e = refl
  same_refusal (ask m) e = refl
  same_refusal (set_gate g) e = absurd e

  same_page : (c : MadeCall) → OldCall c → page_after pg c ≡ page_before pg c
  unfolding OldCall page_after page_before after
  same_page none e = refl
  same_page (makes c) e = ap (λ (n : ℕ). elim (eqb n 0) [ true ↦ written pg c | false ↦ pg ]) (same_refusal c e)
  same_page (asks m) e = refl

  same_answer : (c : MadeCall) → OldCall c → answer_to pg c ≡ answer_before pg c
  unfolding OldCall OfOld answer_to answer_before number_line terms
  same_answer none e = refl
  same_answer (makes c) e = rw (same_refusal c e)
  same_answer (asks m) e = rw (h, same_refusal (ask m) tt, same_chain)

  -- and the page stays one of the old edition
  changed_old : (f : OpenPage → OpenPage) → ((o : OpenPage) → (f o).opening ≡ o.opening) → edition_of (changed pg f) ≡ Old
  unfolding edition_of changed
  changed_old f e = go pg h
    where
      go : (p : Page) → edition_of p ≡ Old → edition_of (changed p f) ≡ Old
      go no_page q = refl
      go (page o) q = ap (λ (g : Opening). g.edition) (e o) ∙ q

  written_old : (c : Call) → OfOld c → edition_of (written pg c) ≡ Old
  unfolding OfOld written edition_of laid_aside
  written_old (open_at g) e = e
  written_old (add e r) d = changed_old _ (λ o. refl)
  written_old mark e = changed_old _ (λ o. refl)
  written_old back e = changed_old _ (λ o. refl)
  written_old forward e = changed_old _ (λ o. taken_opening o.pile o)
  written_old (ask m) e = h
  written_old (set_gate g) e = absurd e

  still_old : (c : MadeCall) → OldCall c → edition_of (page_before pg c) ≡ Old
  unfolding OldCall page_before
  still_old none e = h
  still_old (makes c) e = go (eqb (refusal_before pg c) 0)
    where
      go : (b : Bool) → edition_of (elim b [ true ↦ written pg c | false ↦ pg ]) ≡ Old
      go true = written_old c e
      go false = h
  still_old (asks m) e = h

-- ---- so all lines get the answers that they got

same_answers : (pg : Page) → edition_of pg ≡ Old → (ls : List (List ℕ)) → OldLines ls → answers_to pg ls ≡ answers_before pg ls
unfolding answers_to answers_before OldLines line_call
same_answers pg h [] o = refl
same_answers pg h (l ∷ ls) o =
    let c : MadeCall = call_of (frame_before l) in
    let e : line_call l ≡ c = ap call_of (same_frame l o.0) in
    let q = old_call (old_frame l) in
    ap₂ ◌++◌
    (ap (λ (d : MadeCall). answer_bytes (answer_to pg d)) e ∙ ap answer_bytes (same_answer pg h c q))
    (ap (λ (d : MadeCall). answers_to (page_after pg d) ls) e
    ∙ ap (λ (p : Page). answers_to p ls) (same_page pg h c q)
    ∙ same_answers (page_before pg c) (still_old pg h c q) ls o.1)

pub exchange_before_lem : (input : List ℕ) → OldLines (lines input) → exchange input ≡ exchange_before input
unfolding exchange exchange_before edition_of
exchange_before_lem input h = same_answers no_page refl (lines input) h

-- what the desk writes for such an input, however it is cut
pub desk_before : {e : Desk} {input o b b' : List ℕ} {n : ℕ} → OldLines (lines input) → Talk (desk blank no_line) input e o → Finished e b b' n
    → o ++ take n b' ≡ exchange_before input
desk_before {input = input} h t k = any_cut t k ∙ exchange_before_lem input h
