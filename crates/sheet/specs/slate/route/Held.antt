-- A slate: a small head, a row a rule and the marks, in lent arrays. A route: what a call must answer is said of the record that they
-- stand for, where that record stands.
use Rattle.std.specs.Prelude.{◌≡◌, Bool, true, List, ◌++◌, ℕ, ◌+◌, ◌-◌, ◌≤◌, drop, length, replicate, take}
use Rattle.rule.specs.declared.Rule.{Rule}
use Rattle.rule.specs.Meaning.{RULES}
use Rattle.rule.specs.accept.Accept.{no_rule}
use Rattle.rule.specs.declared.band.Band.{Band}
use Rattle.rule.specs.declared.bits.Fixed.{Fixed}
use Rattle.search.specs.rows.route.OfRules.{OfRules}
use Rattle.search.specs.rows.route.Rows.{bands_in, no_row, rules_in}
use Rattle.search.specs.declared.verdict.Kept.{Kept}
use Rattle.page.specs.declared.Opening.{Opening}
use Rattle.page.specs.Page.{MARKS}
use Rattle.sheet.specs.declared.slate.Counts.{Counts}
use Rattle.sheet.specs.declared.slate.Head.{Head}
use Rattle.sheet.specs.slate.route.Notes.{Notes}
use Rattle.sheet.specs.slate.route.Shape.{stands_so}

-- as many places as a record has
pub record Room (rows : List (List ℕ)) (marks : List ℕ) : Type 0 where
  pub rows_places : length rows ≡ RULES
  pub marks_places : length marks ≡ MARKS

-- the first bands are those of all rules given, in force and waiting, and the bits are those of the rules in force
abbrev pub Drawn : (w given count : ℕ) → List Rule → List Band → Fixed → Type 0
Drawn w given count rs bands fixed = OfRules w (take given bands) fixed (take given rs) (take count rs)

-- what lies beside the rules: the bands of all rules given, and their notes
pub record Beside (h : Head) (rows : List (List ℕ)) : Type 0 where
  pub drawn : Drawn h.opening.width h.counts.given h.counts.count (rules_in rows) (bands_in rows) h.fixed
  pub noted : Notes h.opening.width h.counts.given rows

-- What is held between calls: the head says whether all this is a sheet and, where it is one that is not blank, the bands and
-- the bits of its rules are drawn, and what is noted is so. The rows of rules that wait stay where they lie.
pub record Held (h : Head) (rows : List (List ℕ)) (marks : List ℕ) : Type 0 where
  pub room : Room rows marks
  pub tested : h.stands ≡ stands_so h (rules_in rows) marks
  pub beside : h.stands ≡ true → (h.opening.width ≡ 0 → ⊥) → Beside h rows

-- rules and marks that wait lie after those in force, in places that there are, and no rule and no mark after them
pub record Waits (h : Head) (rs : List Rule) (ms : List ℕ) : Type 0 where
  pub rules_places : length rs ≡ RULES
  pub marks_places : length ms ≡ MARKS
  pub given_low : h.counts.count ≤ h.counts.given
  pub given_high : h.counts.given ≤ RULES
  pub marks_high : h.counts.marked + h.counts.waiting ≤ MARKS
  pub rules_after : drop h.counts.given rs ≡ replicate (RULES - h.counts.given) no_rule
  pub marks_after : drop (h.counts.marked + h.counts.waiting) ms ≡ replicate (MARKS - (h.counts.marked + h.counts.waiting)) 0

-- the rows and the marks once what waited is taken away
abbrev pub bare_rows : Head → List (List ℕ) → List (List ℕ)
bare_rows h rows = take h.counts.count rows ++ (replicate (h.counts.given - h.counts.count) no_row ++ drop h.counts.given rows)

abbrev pub bare_marks : Head → List ℕ → List ℕ
bare_marks h marks = take h.counts.marked marks ++ replicate (MARKS - h.counts.marked) 0

-- how many rules and marks are in force, how many rules were given, and how many stretches wait
abbrev pub counted : (count marked given waiting : ℕ) → Counts
counted count marked given waiting = record { count = count; marked = marked; given = given; waiting = waiting }

-- the head of a sheet
abbrev pub head_of : Opening → Counts → Kept → Fixed → Head
head_of g c k f = record { stands = true; opening = g; counts = c; kept = k; fixed = f }

-- the head with another word on whether all this is a sheet, and other bits
abbrev pub found_to : Head → Bool → Fixed → Head
found_to h b f = record { stands = b; opening = h.opening; counts = h.counts; kept = h.kept; fixed = f }
