-- `first` meets its contract: what is said of the record as it is laid out is said of the record. Assumes nothing.
use mathlib.Core.Path.{◌≡◌, sym, ap, ◌∙◌, subst}
use Rattle.std.specs.Prelude.{Result, Ok, Err}
use Rattle.std.proofs.lemmas.Result.{err_from_is_err_and}
use Rattle.sheet.specs.declared.Sheet.{Sheet}
use Rattle.sheet.specs.route.Held.{packed}
use Rattle.checker.proofs.Held.{lie_so, own_rules, tidy_so, width_so}
use Rattle.checker.specs.declared.finding.Breach.{Breach}
use Rattle.checker.proofs.clause.Found.{Right, early, found_early, stands, walked, whole, wide}
use Rattle.checker.proofs.clause.first.Goals.{After-lay_out-head}
use Rattle.checker.proofs.clause.first.Goals as goal

-- what is right of the record as it is laid out is right of the record
right : (o : After-lay_out-head) (f g : Result Unit Breach) → g ≡ f → Right (packed o.lay_out-head.result o.lay_out-head.new.rows o.lay_out-head.ensures.marks) o.args.links.now f → Right o.args.sheet o.args.links.now g
right o f g e r = subst (λ (s : Sheet). Right s o.args.links.now g) o.lay_out-head.ensures.packs (subst (Right _ _) (sym e) r)

pub returns-in_err-found : goal.returns-in_err-found
returns-in_err-found c =
    let p = err_from_is_err_and c.from_residual.result c.from_residual.ensures.1 in
    let n : early c.lay_out-head.ensures.held c.args.links.now ≡ Err c.in_err-found.field-0.0 = sym c.in_err-found.ensures in
    let r = right (goal.at.returns-in_err-found c).After-lay_out-head _ _ (p.1 ∙ ap Err p.2) (found_early c.lay_out-head.ensures.held c.args.links.now _ n) in
    record { value = r.value; result_value = r.result_value; accepted = r.accepted }

pub first-requires : goal.first-requires
first-requires c =
    let y : early c.lay_out-head.ensures.held c.args.links.now ≡ Ok tt = sym c.in_ok-found.ensures in
    let s = stands c.lay_out-head.ensures.held c.args.links.now y in
    let z = wide c.lay_out-head.ensures.held c.args.links.now y in
    record {
      width = width_so c.lay_out-head.ensures.held s z;
      lie = lie_so c.lay_out-head.ensures.held s z;
      of_lawful = own_rules c.lay_out-head.ensures.held s z;
      tidy = (tidy_so c.lay_out-head.ensures.held s z, whole c.lay_out-head.ensures.held c.args.links.now y);
    }

pub returns : goal.returns
returns c =
    let y : early c.lay_out-head.ensures.held c.args.links.now ≡ Ok tt = sym c.in_ok-found.ensures in
    let r = right (goal.at.returns c).After-lay_out-head _ _ c.first.ensures (walked c.lay_out-head.ensures.held c.args.links.now y) in
    record { value = r.value; result_value = r.result_value; accepted = r.accepted }
