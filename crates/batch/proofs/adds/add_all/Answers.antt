-- `add_all` meets its contract. The loop's invariant: the slate holds what the rules passed leave. Assumes nothing.
use mathlib.Core.Path.{refl}
use native.Mathlib.Omega.{arith}
use Rattle.sheet.proofs.Added.{add_after}
use Rattle.batch.proofs.adds.UnderWay.{begun_way, step_way, stop_way}
use Rattle.batch.proofs.adds.add_all.Goals as goal

pub loop-place-init : goal.loop-place-init
loop-place-init c = record { held = c.requires.0; way = λ pg r q. begun_way _ _ r q }

pub returns-then-is_refused : goal.returns-then-is_refused
returns-then-is_refused c =
    let done = add_after c.loop-place.invariant.held c.add-said.ensures in (
      done.held,
      c.if-is_refused.true,
      record {
        refused = λ z pg r q. stop_way c.args.head.opening.edition c.args.rules.now c.loop-place.place (omega arith) (c.loop-place.invariant.way pg r q) refl done;
        went = λ e. absurd (c.if-is_refused.true e);
      },
    )

pub loop-place-preserved : goal.loop-place-preserved
loop-place-preserved c =
    let done = add_after c.loop-place.invariant.held c.add-said.ensures in record {
      held = done.held;
      way = λ pg r q. step_way c.args.head.opening.edition c.args.rules.now c.loop-place.place (omega arith) (c.loop-place.invariant.way pg r q) refl done c.if-is_refused.false;
    }
