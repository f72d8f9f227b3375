-- How head, rules and marks are told to be a sheet. A route and no meaning: that the test passes exactly for sheets is proved where the
-- record stands (sheet: proofs/Tested.antt). What it looks at: the width and the edition, that each rule in force or waiting would be
-- accepted, that the marks rise up to these rules, that the other places hold zeros, where what waits begins, and what is kept.
use Rattle.std.specs.Prelude.{Bool, ◌&&◌, cond, List, ℕ, ◌+◌, ◌-◌, eqb, leb, get_or, take}
use Rattle.word.specs.declared.Edition.TheVariants.{Old}
use Rattle.word.specs.Edition.{same, terms}
use Rattle.rule.specs.declared.Rule.{Rule}
use Rattle.rule.specs.Meaning.{RULES}
use Rattle.search.specs.declared.verdict.Kept.{Kept}
use Rattle.search.specs.verdict.Kept.{keeps, kept}
use Rattle.page.specs.Page.{MARKS}
use Rattle.page.specs.route.Shape.{marks_shaped, rules_shaped}
use Rattle.sheet.specs.declared.slate.Head.{Head}

unfoldable pub same_kept : Kept → Kept → Bool
same_kept k l =
    eqb k.verdict l.verdict && (eqb k.smallest l.smallest && eqb k.largest l.largest)

-- how many rules are in force: all where nothing waits, else as many as the mark next to come back notes
unfoldable pub in_force : (given : ℕ) → List ℕ → (marked waiting : ℕ) → ℕ
in_force given ms marked waiting = cond (eqb waiting 0) given (get_or ms marked 0)

-- at most so many rules and marks, in force and waiting, well shaped
unfoldable pub well_shaped : Head → List Rule → List ℕ → Bool
well_shaped h rs ms =
    leb h.counts.given RULES
    && (leb h.counts.marked MARKS
    && (leb h.counts.waiting (MARKS - h.counts.marked)
    && (eqb h.counts.count (in_force h.counts.given ms h.counts.marked h.counts.waiting)
    && (rules_shaped h.opening.width h.counts.given rs && marks_shaped h.counts.given (h.counts.marked + h.counts.waiting) ms))))

-- the blank sheet, or a width of the edition with well shaped rules and marks and what is kept of the rules in force
unfoldable pub stands_so : Head → List Rule → List ℕ → Bool
stands_so h rs ms =
    well_shaped h rs ms
    && cond (eqb h.opening.width 0)
    (same h.opening.edition Old && (eqb h.counts.given 0 && (eqb h.counts.marked 0 && (eqb h.counts.waiting 0 && same_kept h.kept (keeps 0 0 0)))))
    (leb h.opening.width (terms h.opening.edition).widest && same_kept h.kept (kept h.opening.width (take h.counts.count rs)))
