-- The record that a page gives (01, "What a sheet is").
use Rattle.std.specs.Prelude.{List, length, replicate}
use Rattle.word.specs.declared.Edition.TheVariants.{Old}
use Rattle.rule.specs.declared.Rule.{Rule}
use Rattle.rule.specs.Meaning.{RULES}
use Rattle.rule.specs.accept.Accept.{no_rule}
use Rattle.search.specs.verdict.Kept.{keeps, kept}
use Rattle.page.specs.Page.{Entry, MARKS, Page, marks_on, no_page, padded, page, restored, rules_on}
use Rattle.sheet.specs.declared.Sheet.{Sheet}

-- "The blank sheet has width 0 and zeros everywhere." It is of the old edition.
abbrev pub blank : Sheet
blank =
    record {
      width = 0;
      rules = replicate RULES no_rule;
      count = 0;
      marks = replicate MARKS 0;
      marked = 0;
      kept = keeps 0 0 0;
      given = 0;
      waiting = 0;
      edition = Old;
    }

-- The record that a page and its pile give: what stands, after that what waits, zeros in the other places, and what is kept of the rules
-- that stand. This is the route: that replaying the page gives it, from the blank sheet, is proved (`sheet::demands: Demand`).
unfoldable pub fresh : Page → Sheet
fresh no_page = blank
fresh (page o) =
    let rs : List Rule = rules_on o.entries in
    let all : List Entry = restored o.pile o.entries in
    record {
      width = o.opening.width;
      rules = padded RULES no_rule (rules_on all);
      count = length rs;
      marks = padded MARKS 0 (marks_on all);
      marked = length (marks_on o.entries);
      kept = kept o.opening.width rs;
      given = length (rules_on all);
      waiting = length o.pile;
      edition = o.opening.edition;
    }
