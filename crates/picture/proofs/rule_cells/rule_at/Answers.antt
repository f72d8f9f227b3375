-- `rule_at` meets its contract: as for all rules, with the one that the rows have at its place by itself. Assumes nothing.
use mathlib.Core.Path.{◌≡◌, refl, sym, ap, ◌∙◌, subst}
use Prim.Native.Nat.{◌<◌}
use native.Mathlib.Omega.{arith}
use borrow.Author.Tests.{le-ltb, lt-ltb}
use lib.ListN.{length, length-map, take}
use lib.Seq.{get_or-take, length-take-le}
use Rattle.rule.specs.declared.Rule.{Rule}
use Rattle.rule.specs.Meaning.{Lawful, meets, rule}
use Rattle.search.specs.rows.route.Rows.{rule_in, rules_in}
use Rattle.chain.specs.Links.{nth}
use Rattle.checker.proofs.covering.Reasons.{lawful_at}
use Rattle.sheet.specs.declared.Sheet.{Sheet}
use Rattle.sheet.specs.route.Held.{packed}
use Rattle.checker.proofs.Held.{lie_so, own_rules, width_so}
use Rattle.picture.specs.declared.shade.Cell.{Cell}
use Rattle.picture.specs.shade.Cell.{cell_of}
use Rattle.std.specs.Prelude.{Some}
use Rattle.picture.specs.Picture.{rule_cell}
use Rattle.picture.specs.route.Shown.{shown}
use Rattle.picture.proofs.Drawn.{Laid, one_shown, words_so}
use Rattle.picture.proofs.rule_cells.rule_at.Goals.{After-lay_out-head, After-rule_at-rule, Else-in_force-number, In-Some}
use Rattle.picture.proofs.rule_cells.rule_at.Goals as goal

abbrev sheet_of : After-lay_out-head → Sheet
sheet_of o = packed o.lay_out-head.result o.lay_out-head.new.rows o.lay_out-head.ensures.marks

-- what is right of the record as it is laid out is right of the record
right : (o : After-lay_out-head) (r : Cell) → r ≡ rule_cell (sheet_of o) o.args.number o.args.column → r ≡ rule_cell o.args.sheet o.args.number o.args.column
right o r e = subst (λ (s : Sheet). r ≡ rule_cell s o.args.number o.args.column) o.lay_out-head.ensures.packs e

told : (d : In-Some) → Some d.in-Some.words ≡ shown d.lay_out-head.result.stands d.lay_out-head.result.opening.width d.args.column
told d = sym d.in-Some.is ∙ d.words_of.ensures

so : (d : In-Some) → Laid d.lay_out-head.result d.in-Some.words
so d = words_so d.lay_out-head.ensures.held d.args.column (told d)

there : (e : Else-in_force-number) → e.args.number < e.lay_out-head.result.counts.count
there e = omega (arith, e.if-in_force-number.false)

many : (e : Else-in_force-number) → length (take e.lay_out-head.result.counts.count (rules_in e.lay_out-head.new.rows)) ≡ e.lay_out-head.result.counts.count
many e =
    let w = (let so-2 : Laid e.lay_out-head.result e.in-Some.words = words_so e.lay_out-head.ensures.held e.args.column (let told-1 : Some e.in-Some.words ≡ shown e.lay_out-head.result.stands e.lay_out-head.result.opening.width e.args.column = sym e.in-Some.is ∙ e.words_of.ensures in told-1) in so-2) in
    length-take-le _ (rules_in e.lay_out-head.new.rows)
    (omega (arith, (lie_so e.lay_out-head.ensures.held w.stands w.opened).count, e.lay_out-head.ensures.held.room.rows_places, length-map e.lay_out-head.new.rows rule_in))

lawful : (e : Else-in_force-number) → Lawful e.lay_out-head.result.opening.width (nth (take e.lay_out-head.result.counts.count (rules_in e.lay_out-head.new.rows)) e.args.number)
lawful e =
    let w = (let so-4 : Laid e.lay_out-head.result e.in-Some.words = words_so e.lay_out-head.ensures.held e.args.column (let told-3 : Some e.in-Some.words ≡ shown e.lay_out-head.result.stands e.lay_out-head.result.opening.width e.args.column = sym e.in-Some.is ∙ e.words_of.ensures in told-3) in so-4) in
    lawful_at _ (take e.lay_out-head.result.counts.count (rules_in e.lay_out-head.new.rows)) e.args.number (omega (arith, (there e), (many e))) (own_rules e.lay_out-head.ensures.held w.stands w.opened).0

-- the rule that is read
read : (a : After-rule_at-rule) → a.rule_at-rule.result ≡ nth (take a.lay_out-head.result.counts.count (rules_in a.lay_out-head.new.rows)) a.args.number
read a =
    a.rule_at-rule.ensures ∙ sym (get_or-take _ (rules_in a.lay_out-head.new.rows) a.args.number (rule 0 0 0 0) (let there-5 : a.args.number < a.lay_out-head.result.counts.count = omega (arith, a.if-in_force-number.false) in there-5))

pub lay_out-head-requires : goal.lay_out-head-requires
lay_out-head-requires c = refl

pub words_of-requires : goal.words_of-requires
words_of-requires c = width_so c.lay_out-head.ensures.held

pub returns-in_default : goal.returns-in_default
returns-in_default c =
    right (goal.at.returns-in_default c).After-lay_out-head _ (one_shown c.lay_out-head.ensures.held c.args.column (sym c.in_default.is ∙ c.words_of.ensures) c.args.number refl)

pub returns-then-in_force-number : goal.returns-then-in_force-number
returns-then-in_force-number c =
    right (goal.at.returns-then-in_force-number c).After-lay_out-head _
    (one_shown c.lay_out-head.ensures.held c.args.column (told (goal.at.returns-then-in_force-number c).In-Some) c.args.number
    (le-ltb c.args.number c.lay_out-head.result.counts.count (omega (arith, c.if-in_force-number.true))))

pub rule_at-rule-requires : goal.rule_at-rule-requires
rule_at-rule-requires c =
    let w = so (goal.at.rule_at-rule-requires c).In-Some in
    omega (arith, there (goal.at.rule_at-rule-requires c).Else-in_force-number, (lie_so c.lay_out-head.ensures.held w.stands w.opened).count)

pub alone-requires : goal.alone-requires
alone-requires c =
    let w = so (goal.at.alone-requires c).In-Some in record { width = width_so c.lay_out-head.ensures.held w.stands w.opened; lawful = (subst (Lawful c.lay_out-head.result.opening.width) (sym (read (goal.at.alone-requires c).After-rule_at-rule)) (lawful (goal.at.alone-requires c).Else-in_force-number), w.order, w.below) }

pub returns : goal.returns
returns c =
    right (goal.at.returns c).After-lay_out-head _
    (c.alone.ensures
    ∙ ap (λ (r : Rule). cell_of (meets c.lay_out-head.result.opening.width r) c.in-Some.words.from c.in-Some.words.to) (read (goal.at.returns c).After-rule_at-rule)
    ∙ one_shown c.lay_out-head.ensures.held c.args.column (told (goal.at.returns c).In-Some) c.args.number (lt-ltb c.args.number c.lay_out-head.result.counts.count (there (goal.at.returns c).Else-in_force-number)))
