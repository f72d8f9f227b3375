-- `same_run` is safe: the band of a lawful rule is laid. Assumes nothing.
use mathlib.Core.Path.{sym, ◌∙◌}
use native.Mathlib.Omega.{arith}
use Rattle.rule.proofs.band.Law.{laid}
use Rattle.try_rules.proofs.same_run.Goals as goal

pub run-run-requires : goal.run-run-requires
run-run-requires c =
    (rw (c.top.ensures, c.of-band.ensures) (laid _ c.requires.narrow.low _ c.requires.lawful.0), omega arith, sym c.holds.ensures ∙ c.if-holds.false)
