-- The exchange as it was before there was a new edition: its frames, its table of refusals and its answers, with every number, code and
-- row written out, so that an old line's answer cannot change with today's tables unseen. These rows stand for one statement alone:
-- that the exchange comes out byte for byte as before (proofs/exchange/Before.antt). What it follows, since K7 has it "stated once over the width"
-- for both editions: what a rule means and the chain (`findings`), what the clerk writes (`written`), and how a number is written.
use Rattle.std.specs.Prelude.{◌≡◌, Bool, true, false, not, ◌&&◌, ◌||◌, cond, List, [], ◌∷◌, ◌++◌, ℕ, ◌+◌, ◌*◌, eqb, leb, ltb, length, take}
use Rattle.std.specs.Int.Bits.{bit_and}
use Rattle.std.proofs.Math.Seq.{slice}
use Rattle.word.specs.declared.Edition.TheVariants.{Old}
use Rattle.word.specs.Word.{top}
use Rattle.rule.specs.declared.Rule.{Rule}
use Rattle.rule.specs.Meaning.{rule}
use Rattle.search.specs.declared.verdict.Kept.{Kept}
use Rattle.chain.specs.declared.Link.{Link}
use Rattle.chain.specs.Findings.{findings}
use Rattle.page.specs.Calls.{Call, Ground, add, ask, back, first_that_applies, forward, ground, is_blank, mark, marks_of, open_at, rules_of, set_gate, written}
use Rattle.page.specs.Page.{Page, at_width, no_page, pile_of, width_of}
use Rattle.digits.specs.hexadecimal.Hex.{all_digits, number}
use Rattle.frame.specs.declared.Frame.{Frame}
use Rattle.frame.specs.declared.Frame.TheVariants.{Add, Ask, Back, Forward, Mark, NoFrame, Open}
use Rattle.frame.specs.fields.Answers.{answer_bytes}
use Rattle.frame.specs.Calls.{MadeCall, asks, call_of, makes, none}
use Rattle.frame.specs.fields.Fields.{Line, field}
use Rattle.frame.specs.exchange.Exchange.{lines}
use Rattle.digits.specs.hexadecimal.Text.{bytes_of}

-- ---- lines without the new frames' codes

-- a line begins with neither `11` nor `12`
abbrev pub OldLine : List ℕ → Type 0
OldLine l = (take 2 l ≡ bytes_of "11" → ⊥) × (take 2 l ≡ bytes_of "12" → ⊥)

unfoldable pub OldLines : List (List ℕ) → Type 0
OldLines [] = Unit
OldLines (l ∷ ls) = OldLine l × OldLines ls

-- ---- the exchange of such lines

-- "`01` width(2): open. `02` form(2) sense(2) c1(8) c2(8): add. `03` mark. `04` back. `05` ask."; "frame `06`"
unfoldable pub frame_before : List ℕ → Frame
frame_before l =
    let code : ℕ = number (take 2 l) in
    cond (all_digits l)
    (cond (eqb (length l) 2) (cond (eqb code 0x03) Mark (cond (eqb code 0x04) Back (cond (eqb code 0x05) Ask (cond (eqb code 0x06) Forward NoFrame))))
    (cond (eqb (length l) 4 && eqb code 0x01) (Open (at_width (number (slice 2 4 l)) Old))
    (cond (eqb (length l) 22 && eqb code 0x02)
    (Add Old (rule (number (slice 2 4 l)) (number (slice 4 6 l)) (number (slice 6 14 l)) (number (slice 14 22 l))))
    NoFrame)))
    NoFrame

-- 5: "a constant above the top word, or c2 not zero in forms 4, 5, 6", and K4's "bit in c2 that c1 lacks" in form 7
abbrev pub fifth_before : ℕ → Rule → Bool
fifth_before w r =
    ltb (top w) r.c1
    || ltb (top w) r.c2
    || eqb r.form 7 && not (eqb (bit_and r.c2 r.c1) r.c2)
    || not (eqb r.c2 0) && (leb 4 r.form && leb r.form 6)

-- the table: 2 with the widths 1 to 32, an add without 11, the limits of K6, and 12 of K1; no line sets a gate
unfoldable pub grounds_before : Page → Call → List Ground
grounds_before pg (open_at g) = ground 2 (not (leb 1 g.width && leb g.width 32)) ∷ []
grounds_before pg (add e r) =
    ground 1 (is_blank pg)
    ∷ ground 3 (not (leb 1 r.form && leb r.form 8))
    ∷ ground 4 (ltb 1 r.sense || eqb r.sense 1 && eqb r.form 7)
    ∷ ground 5 (fifth_before (width_of pg) r)
    ∷ ground 6 (leb 200 (length (rules_of pg)))
    ∷ []
grounds_before pg mark = ground 1 (is_blank pg) ∷ ground 7 (leb 32 (length (marks_of pg))) ∷ []
grounds_before pg back = ground 1 (is_blank pg) ∷ ground 8 (eqb (length (marks_of pg)) 0) ∷ []
grounds_before pg forward = ground 1 (is_blank pg) ∷ ground 12 (eqb (length (pile_of pg)) 0) ∷ []
grounds_before pg (ask m) = ground 1 (is_blank pg) ∷ ground 9 (ltb m (3 * (4 * length (rules_of pg) + 1))) ∷ []
grounds_before pg (set_gate g) = []

unfoldable pub refusal_before : Page → Call → ℕ
refusal_before pg c = first_that_applies (grounds_before pg c)

-- "`00` accepted; `ff` number(2) refused", "`a0` verdict(2) smallest(8) largest(8)", and "`c0` from(8) to(8) reason(2)"
abbrev pub number_before : ℕ → Line
number_before n = cond (eqb n 0) (field 2 0x00 ∷ []) (field 2 0xff ∷ field 2 n ∷ [])

abbrev pub kept_before : Kept → Line
kept_before k = field 2 0xa0 ∷ field 2 k.verdict ∷ field 8 k.smallest ∷ field 8 k.largest ∷ []

unfoldable pub chain_before : List Link → List Line
chain_before [] = []
chain_before (l ∷ ls) = (field 2 0xc0 ∷ field 8 l.from ∷ field 8 l.to ∷ field 2 l.reason ∷ []) ∷ chain_before ls

unfoldable pub answer_before : Page → MadeCall → List Line
answer_before pg none = number_before 10 ∷ []
answer_before pg (makes c) = number_before (refusal_before pg c) ∷ []
answer_before pg (asks m) =
    cond (eqb (refusal_before pg (ask m)) 0)
    (kept_before (findings (width_of pg) (rules_of pg)).kept ∷ chain_before (findings (width_of pg) (rules_of pg)).chain)
    (number_before (refusal_before pg (ask m)) ∷ [])

unfoldable pub page_before : Page → MadeCall → Page
page_before pg none = pg
page_before pg (makes c) = elim (eqb (refusal_before pg c) 0) [ true ↦ written pg c | false ↦ pg ]
page_before pg (asks m) = pg

unfoldable pub answers_before : Page → List (List ℕ) → List ℕ
answers_before pg [] = []
answers_before pg (l ∷ ls) =
    let c : MadeCall = call_of (frame_before l) in
    answer_bytes (answer_before pg c) ++ answers_before (page_before pg c) ls

unfoldable pub exchange_before : List ℕ → List ℕ
exchange_before input = answers_before no_page (lines input)
