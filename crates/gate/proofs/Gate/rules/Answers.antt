-- `Gate::rules` meets its contract. Assumes nothing.
use Rattle.gate.proofs.Bits.{high_limit, its_rules, low_limit, no_rules}
use Rattle.gate.proofs.Gate.rules.Goals as goal

pub returns-in_err-low : goal.returns-in_err-low
returns-in_err-low c = no_rules _ c.in_err-low.ensures.bits _ c.from_residual.ensures.0

pub between-requires : goal.between-requires
between-requires c =
    record {
      limit = low_limit _ c.in_ok-low.ensures.single c.in_ok-low.ensures.bits;
      limit_2 = high_limit _ c.in_ok-low.ensures.single c.in_ok-low.ensures.bits;
    }

pub returns : goal.returns
returns c = its_rules _ c.in_ok-low.ensures.single c.in_ok-low.ensures.bits c.between.ensures
