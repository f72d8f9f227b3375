-- What a call from a line gets on the sheet that a page gives (01, "Lines of hexadecimal").
use Rattle.std.specs.Prelude.{cond, List, [], ◌∷◌, eqb}
use Rattle.chain.specs.Findings.{findings}
use Rattle.page.specs.Calls.{after, ask, refusal, rules_of}
use Rattle.page.specs.Page.{Page, edition_of, width_of}
use Rattle.frame.specs.fields.Answers.{NO_FRAME, chain_lines, kept_line, number_line}
use Rattle.frame.specs.Calls.{MadeCall, asks, makes, none}
use Rattle.frame.specs.fields.Fields.{Line}

-- a call is answered by its number, asking by what is found, in the digits of the page's edition, and a line that makes no call by 10
unfoldable pub answer_to : Page → MadeCall → List Line
answer_to pg none = number_line NO_FRAME ∷ []
answer_to pg (makes c) = number_line (refusal pg c) ∷ []
answer_to pg (asks m) =
    cond (eqb (refusal pg (ask m)) 0)
    (kept_line (edition_of pg) (findings (width_of pg) (rules_of pg)).kept ∷ chain_lines (edition_of pg) (findings (width_of pg) (rules_of pg)).chain)
    (number_line (refusal pg (ask m)) ∷ [])

-- the page after a line: where it makes no call, and after asking, as it was
unfoldable pub page_after : Page → MadeCall → Page
page_after pg none = pg
page_after pg (makes c) = after pg c
page_after pg (asks m) = pg
