-- `held` meets its contract: the first word passes, or the one after the run around it is the first that does. Assumes nothing.
use mathlib.Core.Path.{sym, ap, ◌∙◌}
use native.Mathlib.Omega.{arith}
use Prim.Native.Nat.{ℕ, ◌+◌}
use Rattle.std.specs.Prelude.{Some}
use Rattle.rule.specs.band.route.Band.{holds}
use Rattle.checker.proofs.reason.Meeting.{after_run, at_once, run_covers}
use Rattle.checker.proofs.reason.held.Goals as goal

pub returns-then-holds : goal.returns-then-holds
returns-then-holds c =
    at_once (holds c.args.band) c.args.from c.args.to c.args.top c.requires.1 c.requires.2 (sym c.holds.ensures ∙ c.if-holds.true)

pub run-end-requires : goal.run-end-requires
run-end-requires c =
    (c.requires.0, omega arith, sym c.holds.ensures ∙ c.if-holds.false)

pub returns-then-to-end : goal.returns-then-to-end
returns-then-to-end c =
    run_covers (holds c.args.band) c.args.from c.args.to c.args.top c.requires.1 c.requires.2 (sym c.holds.ensures ∙ c.if-holds.false)
    (omega (arith, c.run-end.ensures.1, c.if-to-end.true))

pub returns : goal.returns
returns c =
    ap (λ (e : ℕ). Some (e + 1)) c.run-end.ensures.1
    ∙ after_run (holds c.args.band) c.args.from c.args.to c.args.top c.requires.1 c.requires.2 (sym c.holds.ensures ∙ c.if-holds.false)
    (omega (arith, c.run-end.ensures.1, c.if-to-end.false))
