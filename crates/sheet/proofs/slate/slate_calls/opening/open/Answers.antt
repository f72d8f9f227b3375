-- `open` meets its contract: a refused opening leaves all as it was, and an accepted one empties every place. Assumes nothing.
use mathlib.Core.Path.{sym, ap, ◌∙◌, subst}
use Prim.Native.Nat.{◌≤◌, ◌<◌}
use native.Mathlib.Omega.{arith}
use Rattle.word.specs.Edition.{terms}
use Rattle.word.specs.declared.Terms.{Terms}
use Rattle.word.specs.Word.{IsWidth}
use Rattle.word.proofs.Editions.{widest_held}
use Rattle.search.proofs.verdict.NoRules.{kept_none}
use Rattle.sheet.specs.declared.slate.Head.{Head}
use Rattle.search.specs.declared.noting.Note.{Note}
use Rattle.sheet.specs.slate.route.Held.{counted, head_of}
use Rattle.search.specs.noting.route.Note.{note_at}
use Rattle.sheet.specs.slate.slate_calls.route.Done.{Opens}
use Rattle.sheet.specs.slate.slate_calls.route.Done.Opens.{narrow, opened, wide}
use Rattle.sheet.proofs.slate.slate_calls.Opened.{beside_opened}
use Rattle.sheet.proofs.slate.slate_calls.opening.open.Goals.{Else-terms-width}
use Rattle.sheet.proofs.slate.slate_calls.opening.open.Goals as goal

low : (a : Else-terms-width) → 1 ≤ a.args.opening.width
low a = omega arith

high : (a : Else-terms-width) → a.args.opening.width ≤ (terms a.args.opening.edition).widest
high a = subst (λ (k : Terms). a.args.opening.width ≤ k.widest) a.terms.ensures a.if-terms-width.false

is-width : (a : Else-terms-width) → IsWidth a.args.opening.width
is-width a = record { low = low a; high = omega (arith, high a, widest_held a.args.opening.edition) }

pub returns-then-is_none : goal.returns-then-is_none
returns-then-is_none c = narrow c.if-is_none.true

pub returns-then-terms-width : goal.returns-then-terms-width
returns-then-terms-width c =
    wide (subst (λ (k : Terms). k.widest < c.args.opening.width) c.terms.ensures c.if-terms-width.true)

pub clear_all-requires : goal.clear_all-requires
clear_all-requires c = c.requires

pub no_rules-none-requires : goal.no_rules-none-requires
no_rules-none-requires c = is-width (goal.at.no_rules-none-requires c).Else-terms-width

pub returns : goal.returns
unfolding note_at
returns c =
    let head = c.of-head.ensures ∙ ap (head_of c.args.opening (counted 0 0 0 0) c.no_rules-none.result.kept) (ap (λ (m : Note). m.fixed) c.no_rules-none.ensures) in
    let found = ap (λ (m : Note). m.kept) c.no_rules-none.ensures ∙ kept_none c.args.opening.width (low (goal.at.returns c).Else-terms-width) in
    subst (λ (h : Head). Opens c.args.head c.args.rows.now c.args.marks.now c.args.opening 0 h c.clear_all.new.rows c.clear_all.new.marks) (sym head)
    (opened c.no_rules-none.result.kept (low (goal.at.returns c).Else-terms-width) (high (goal.at.returns c).Else-terms-width) c.clear_all.ensures.rows_after c.clear_all.ensures.marks_after (beside_opened c.args.opening (low (goal.at.returns c).Else-terms-width) c.no_rules-none.result.kept _) found)
