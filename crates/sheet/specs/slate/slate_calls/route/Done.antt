-- What an opening, an add and a mark on a slate do, said of head, rows and marks alone: their ways out, each with what is then known. A route: what a call must
-- do is said of the record that they stand for, and that this does it is proved where the record stands (sheet: proofs/Added.antt,
-- Marked.antt, Opened.antt).
use Rattle.std.specs.Prelude.{◌≡◌, List, [], ◌++◌, ℕ, ◌+◌, ◌-◌, ◌≤◌, ◌<◌, replicate, set, take}
use Rattle.word.specs.declared.Edition.{Edition}
use Rattle.word.specs.Edition.{terms}
use Rattle.rule.specs.declared.Rule.{Rule}
use Rattle.rule.specs.Meaning.{RULES}
use Rattle.rule.specs.accept.Accept.{no_rule}
use Rattle.rule.specs.declared.bits.Fixed.{Fixed}
use Rattle.rule.specs.declared.bits.Fixed.TheVariants.{Bits}
use Rattle.search.specs.rows.route.Rows.{rules_in}
use Rattle.search.specs.declared.verdict.Kept.{Kept}
use Rattle.search.specs.verdict.Kept.{kept}
use Rattle.page.specs.declared.Opening.{Opening}
use Rattle.page.specs.Page.{MARKS}
use Rattle.sheet.specs.declared.slate.Head.{Head}
use Rattle.sheet.specs.slate.route.Held.{Beside, bare_marks, counted, head_of}
use Rattle.sheet.specs.slate.route.Numbers.{before, rule_number}
use Rattle.sheet.specs.slate.stepping.route.Steps.{Refused}

-- ---- opening

-- the head of a sheet with no rule
abbrev pub new_head : Opening → Kept → Head
new_head g k = head_of g (counted 0 0 0 0) k (Bits 0 0)

-- the width is none of the edition, and all stays; or every place is emptied
pub data Opens (h : Head) (rows : List (List ℕ)) (marks : List ℕ) (g : Opening) : ℕ → Head → List (List ℕ) → List ℕ → Type 0 where
  narrow : g.width < 1 → Opens h rows marks g 2 h rows marks
  wide : (terms g.edition).widest < g.width → Opens h rows marks g 2 h rows marks
  opened : {rows' : List (List ℕ)} {marks' : List ℕ} (k : Kept) → 1 ≤ g.width → g.width ≤ (terms g.edition).widest
      → rules_in rows' ≡ replicate RULES no_rule → marks' ≡ replicate MARKS 0 → Beside (new_head g k) rows' → k ≡ kept g.width []
      → Opens h rows marks g 0 (new_head g k) rows' marks'

-- ---- adding and marking

-- the rules once what waited is taken away
abbrev pub bare_rules : Head → List (List ℕ) → List Rule
bare_rules h rows = take h.counts.count (rules_in rows) ++ replicate (RULES - h.counts.count) no_rule

-- the head after an accepted add
abbrev pub with_one : Head → Kept → Fixed → Head
with_one h k f = head_of h.opening (counted (h.counts.count + 1) h.counts.marked (h.counts.count + 1) 0) k f

-- the rule is refused, and all stays; or what waited is taken away, and the rule goes into the next place with its band and a note
pub data Adds (h : Head) (rows : List (List ℕ)) (marks : List ℕ) (e : Edition) (u : Rule) : ℕ → Head → List (List ℕ) → List ℕ → Type 0 where
  refused : {n : ℕ} → n ≡ rule_number h e u → (n ≡ 0 → ⊥) → Adds h rows marks e u n h rows marks
  added : {rows' : List (List ℕ)} {marks' : List ℕ} (k : Kept) (f : Fixed) → rule_number h e u ≡ 0
      → rules_in rows' ≡ set (bare_rules h rows) h.counts.count u → marks' ≡ bare_marks h marks → Beside (with_one h k f) rows'
      → k ≡ kept h.opening.width (take (h.counts.count + 1) (rules_in rows')) → Adds h rows marks e u 0 (with_one h k f) rows' marks'

-- the head after an accepted mark
abbrev pub marked_head : Head → Head
marked_head h = head_of h.opening (counted h.counts.count (h.counts.marked + 1) h.counts.count 0) h.kept h.fixed

-- the mark is refused, and all stays; or what waited is taken away, and the number of rules in force goes into the next place
pub data Marks (h : Head) (rows : List (List ℕ)) (marks : List ℕ) : ℕ → Head → List (List ℕ) → List ℕ → Type 0 where
  unmarked : {n : ℕ} → Refused h 7 (MARKS ≤ h.counts.marked) n → Marks h rows marks n h rows marks
  marked : {rows' : List (List ℕ)} {marks' : List ℕ} → before h.stands h.opening.width ≡ 0 → h.counts.marked < MARKS
      → rules_in rows' ≡ bare_rules h rows → marks' ≡ set (bare_marks h marks) h.counts.marked h.counts.count → Beside (marked_head h) rows'
      → Marks h rows marks 0 (marked_head h) rows' marks'
