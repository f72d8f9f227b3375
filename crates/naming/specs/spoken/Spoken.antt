-- Statements on the clerk's pages, each with the name of its rule, none of which is a mistake or is refused.
use Rattle.std.specs.Prelude.{◌≡◌, true, false, List, ℕ, ◌≤◌, length}
use Rattle.page.specs.Calls.{rules_of}
use Rattle.page.specs.Page.{Page}
use Rattle.line.specs.Line.{LIMIT}
use Rattle.line.specs.declared.Statement.{Statement}
use Rattle.dialogue.specs.Heard.{answer_on, ending, page_on}
use Rattle.naming.specs.Names.{kept}
use Rattle.naming.specs.named.Named.{names_after, no_zero}

-- from a page, rows and the clerk's list to those after them: each name goes to the number of rules that are in force on its page
pub data Spoken (m : ℕ) : Page → (rows ns : List (List ℕ)) → Page → (rows' ns' : List (List ℕ)) → Type 0 where
  nothing : {pg : Page} {rows ns : List (List ℕ)} → Spoken m pg rows ns pg rows ns
  next : {pg pg' : Page} {rows ns rows' ns' : List (List ℕ)} (st : Statement) (name : List ℕ)
      → ending (answer_on m pg st) ≡ false → no_zero name ≡ true → length name ≤ LIMIT
      → Spoken m (page_on pg st) (kept st (length (rules_of pg)) name rows) (names_after st (length (rules_of pg)) name ns) pg' rows' ns'
      → Spoken m pg rows ns pg' rows' ns'
