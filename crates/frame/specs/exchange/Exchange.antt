-- The whole exchange, from the bytes of the input to those of the output (01, "Lines of hexadecimal").
use Rattle.std.specs.Prelude.{cond, List, [], ◌∷◌, ◌++◌, ℕ, eqb}
use Rattle.page.specs.Page.{Page, no_page}
use Rattle.frame.specs.fields.Answers.{NEWLINE, answer_bytes}
use Rattle.frame.specs.Calls.{line_call}
use Rattle.frame.specs.Pages.{answer_to, page_after}

-- a byte in front of the first line; there may be none yet
unfoldable pub in_front : ℕ → List (List ℕ) → List (List ℕ)
in_front b [] = (b ∷ []) ∷ []
in_front b (l ∷ ls) = (b ∷ l) ∷ ls

-- "one frame a line, .. each line ended by byte 10; the last may lack it, and a final byte 10 opens no further line"
unfoldable pub lines : List ℕ → List (List ℕ)
lines [] = []
lines (b ∷ bs) = cond (eqb b NEWLINE) ([] ∷ lines bs) (in_front b (lines bs))

-- the answers to lines, one after the other
unfoldable pub answers_to : Page → List (List ℕ) → List ℕ
answers_to pg [] = []
answers_to pg (l ∷ ls) = answer_bytes (answer_to pg (line_call l)) ++ answers_to (page_after pg (line_call l)) ls

-- the output for an input: the first line finds the blank sheet
unfoldable pub exchange : List ℕ → List ℕ
exchange input = answers_to no_page (lines input)
