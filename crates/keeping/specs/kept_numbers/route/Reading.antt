-- The record that any numbers are read as. A route and no meaning: that numbers are a sheet's exactly where this record is a sheet, and then
-- the sheet's own, is proved (proofs/kept_numbers/Kept.antt).
use Rattle.std.specs.Prelude.{cond, List, [], ◌∷◌, ℕ, zero, suc, ltb, drop, get_or, take}
use Rattle.rule.specs.declared.Rule.{Rule}
use Rattle.rule.specs.Meaning.{RULES}
use Rattle.search.specs.verdict.Kept.{keeps}
use Rattle.page.specs.declared.Opening.{Opening}
use Rattle.page.specs.Page.{MARKS}
use Rattle.sheet.specs.declared.Sheet.{Sheet}
use Rattle.outside.specs.handing.Handed.{opening_of, rule_in}
use Rattle.keeping.specs.kept_numbers.Numbers.{HEAD, RULES_AT}

-- n rules, four numbers each
unfoldable pub rules_from : (n : ℕ) → List ℕ → List Rule
rules_from zero ns = []
rules_from (suc n) ns = rule_in ns ∷ rules_from n (drop 4 ns)

unfoldable pub rules_in : List ℕ → List Rule
rules_in ns = rules_from RULES (drop RULES_AT ns)

unfoldable pub marks_in : List ℕ → List ℕ
marks_in ns = take MARKS (drop HEAD ns)

-- a width and the number of an edition; with a number that is none, no width
abbrev pub opening_in : (width edition : ℕ) → Opening
opening_in w e = opening_of (cond (ltb 1 e) 0 w) e

unfoldable pub sheet_in : List ℕ → Sheet
sheet_in ns =
    record {
      width = (opening_in (get_or ns 0 0) (get_or ns 1 0)).width;
      rules = rules_in ns;
      count = get_or ns 2 0;
      marks = marks_in ns;
      marked = get_or ns 3 0;
      kept = keeps (get_or ns 6 0) (get_or ns 7 0) (get_or ns 8 0);
      given = get_or ns 4 0;
      waiting = get_or ns 5 0;
      edition = (opening_in (get_or ns 0 0) (get_or ns 1 0)).edition;
    }
