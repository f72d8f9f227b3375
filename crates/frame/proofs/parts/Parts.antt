-- The exchange of an input is that of its parts, put together: the lines of bytes that are ended come before those of what follows, and
-- an accepted opening leaves one page whatever stood before. Assumes nothing.
use mathlib.Core.Path.{◌≡◌, refl, sym, ap, ap₂, ◌∙◌, subst}
use mathlib.Core.Bool.{Bool, true, false, cond}
use mathlib.Core.List.{List, [], ◌∷◌, ◌++◌, append_assoc, append-nil, flatten, map}
use Prim.Native.Nat.{ℕ}
use native.Mathlib.Omega.{arith}
use lib.Dec.{eqb}
use Rattle.word.specs.Edition.{terms}
use Rattle.page.specs.Calls.{Call, grounds, open_at, refusal, written}
use Rattle.page.specs.Page.{Page, no_page}
use Rattle.page.proofs.Refusals.{after_accepted}
use Rattle.digits.specs.hexadecimal.Hex.{all_digits, number, number_from}
use Rattle.frame.specs.fields.Answers.{NEWLINE, answer_bytes, number_line}
use Rattle.frame.specs.Calls.{call_of, line_call}
use Rattle.frame.specs.frame_numbers.route.Numbers.{code_edition}
use Rattle.frame.specs.route.Reading.{bare, by_digits, frame_of, numbered}
use Rattle.frame.specs.Pages.{answer_to, page_after}
use Rattle.frame.specs.exchange.Exchange.{answers_to, exchange, in_front, lines}
use Rattle.frame.specs.input_line.Lines.{line_of}
use Rattle.frame.specs.parts.Parts.{AcceptedOpening, CutAtOpenings, Ended, ended, nothing}

-- ---- lines

-- a byte before lines: it ends one that is empty, or begins the first
line_more : (b : ℕ) (l : List ℕ) (ls : List (List ℕ)) {ks : List (List ℕ)} → in_front b ls ≡ (b ∷ l) ∷ ks → (t : Bool)
    → (js : List (List ℕ)) × (cond t ([] ∷ ls) (in_front b ls) ≡ cond t [] (b ∷ l) ∷ js)
line_more b l ls e true = (ls, refl)
line_more b l ls {ks} e false = (ks, e)

-- bytes have a first line
first_line : (b : ℕ) (bs : List ℕ) → (ks : List (List ℕ)) × (lines (b ∷ bs) ≡ line_of (b ∷ bs) ∷ ks)
unfolding lines line_of in_front
first_line b [] = line_more b [] [] refl (eqb b NEWLINE)
first_line b (c ∷ bs) = line_more b (line_of (c ∷ bs)) (lines (c ∷ bs)) (ap (in_front b) (first_line c bs).1) (eqb b NEWLINE)

-- a byte goes to the first line where there is one, whatever lines follow
front_first : (b : ℕ) {l : List ℕ} {ls ms : List (List ℕ)} (ks : List (List ℕ)) → ls ≡ l ∷ ms → in_front b (ls ++ ks) ≡ in_front b ls ++ ks
unfolding in_front
front_first b ks e = rw e

ended_some : (u : List ℕ) → (l : List ℕ) × (ms : List (List ℕ)) × (lines (u ++ NEWLINE ∷ []) ≡ l ∷ ms)
ended_some [] = let f = first_line NEWLINE [] in (_, f.0, f.1)
ended_some (b ∷ u) = let f = first_line b (u ++ NEWLINE ∷ []) in (_, f.0, f.1)

line_after : (b : ℕ) {l : List ℕ} {ls ms : List (List ℕ)} (ks : List (List ℕ)) → ls ≡ l ∷ ms → (t : Bool)
    → cond t ([] ∷ (ls ++ ks)) (in_front b (ls ++ ks)) ≡ cond t ([] ∷ ls) (in_front b ls) ++ ks
line_after b ks e true = refl
line_after b ks e false = front_first b ks e

-- the lines of bytes that are ended, and then those of what follows
ended_lines : (u b : List ℕ) → lines ((u ++ NEWLINE ∷ []) ++ b) ≡ lines (u ++ NEWLINE ∷ []) ++ lines b
unfolding lines in_front
ended_lines [] b = refl
ended_lines (c ∷ u) b =
    ap (λ (ls : List (List ℕ)). cond (eqb c NEWLINE) ([] ∷ ls) (in_front c ls)) (ended_lines u b)
    ∙ line_after c (lines b) (ended_some u).2 (eqb c NEWLINE)

lines_after : {a : List ℕ} (b : List ℕ) → Ended a → lines (a ++ b) ≡ lines a ++ lines b
unfolding lines
lines_after b nothing = refl
lines_after b (ended u) = ended_lines u b

-- the first line of bytes that are ended stays so, whatever follows
ended_first : (u b : List ℕ) → line_of ((u ++ NEWLINE ∷ []) ++ b) ≡ line_of (u ++ NEWLINE ∷ [])
unfolding line_of
ended_first [] b = refl
ended_first (c ∷ u) b = ap (λ (l : List ℕ). cond (eqb c NEWLINE) [] (c ∷ l)) (ended_first u b)

-- ---- an accepted opening

-- no line, no opening
none_opens : AcceptedOpening [] → ⊥
unfolding line_call call_of frame_of by_digits bare numbered code_edition all_digits number number_from terms
none_opens h = let e = h.opens in let z : ◌≡◌ {A = ℕ} 0 1 = cc in omega arith

-- on any page it gets the answer that it gets on none, and it leaves the same page
module _ {l : List ℕ} (h : AcceptedOpening l) (pg : Page) where
  abbrev c : Call
  c = open_at h.opening

  same_refusal : refusal pg c ≡ refusal no_page c
  unfolding refusal grounds
  same_refusal = refl

  opens_anew : (ks : List (List ℕ)) → answers_to pg (l ∷ ks) ≡ answers_to no_page (l ∷ ks)
  unfolding answers_to answer_to page_after written
  opens_anew ks =
      rw h.opens
      (ap₂ ◌++◌ (ap (λ (n : ℕ). answer_bytes (number_line n ∷ [])) same_refusal)
      (ap (λ (p : Page). answers_to p ks) (after_accepted pg c (same_refusal ∙ h.accepted) ∙ sym (after_accepted no_page c h.accepted))))

-- lines, and then those that an accepted opening begins
answers_on : {l : List ℕ} → AcceptedOpening l → (pg : Page) (ls ks : List (List ℕ))
    → answers_to pg (ls ++ l ∷ ks) ≡ answers_to pg ls ++ answers_to no_page (l ∷ ks)
unfolding answers_to
answers_on h pg [] ks = opens_anew h pg ks
answers_on {l} h pg (m ∷ ls) ks =
    ap (λ (o : List ℕ). answer_bytes (answer_to pg (line_call m)) ++ o) (answers_on h (page_after pg (line_call m)) ls ks)
    ∙ sym (append_assoc (answer_bytes (answer_to pg (line_call m))) (answers_to (page_after pg (line_call m)) ls) (answers_to no_page (l ∷ ks)))

-- ---- one cut, and any number of them

pub one_cut : {a : List ℕ} (b : List ℕ) → Ended a → AcceptedOpening (line_of b) → exchange (a ++ b) ≡ exchange a ++ exchange b
unfolding exchange line_of
one_cut [] e h = absurd (none_opens h)
one_cut {a} (c ∷ bs) e h =
    let f = first_line c bs in
    ap (answers_to no_page) (lines_after (c ∷ bs) e ∙ ap (λ (ls : List (List ℕ)). lines a ++ ls) f.1)
    ∙ answers_on h no_page (lines a) f.0
    ∙ ap (λ (ls : List (List ℕ)). answers_to no_page (lines a) ++ answers_to no_page ls) (sym f.1)

-- a part that is ended begins so with what follows it too
still_opens : {a : List ℕ} (b : List ℕ) → Ended a → AcceptedOpening (line_of a) → AcceptedOpening (line_of (a ++ b))
unfolding line_of
still_opens b nothing h = absurd (none_opens h)
still_opens b (ended u) h = subst AcceptedOpening (sym (ended_first u b)) h

-- "the answers put together are the bytes of one desk"
pub many_desks : (ps : List (List ℕ)) → CutAtOpenings ps → exchange (flatten ps) ≡ flatten (map exchange ps)
unfolding CutAtOpenings flatten exchange lines answers_to
many_desks [] h = refl
many_desks (a ∷ []) h = ap exchange (append-nil a) ∙ sym (append-nil (exchange a))
many_desks (a ∷ (b ∷ ps)) (e, o, h) =
    one_cut (flatten (b ∷ ps)) e (begins ps h) ∙ ap (λ (l : List ℕ). exchange a ++ l) (many_desks (b ∷ ps) h)
  where
    begins : (qs : List (List ℕ)) → CutAtOpenings (b ∷ qs) → AcceptedOpening (line_of (b ++ flatten qs))
    begins [] k = subst (λ (l : List ℕ). AcceptedOpening (line_of l)) (sym (append-nil b)) o
    begins (q ∷ qs) k = still_opens (flatten (q ∷ qs)) k.0 o
