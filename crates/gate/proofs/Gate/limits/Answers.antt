-- `limits` meets its contract, gate by gate. Assumes nothing.
use mathlib.Core.Path.{refl}
use Rattle.gate.specs.Gate.{not_numbers}
use Rattle.gate.specs.Paper.{Single}
use Rattle.gate.proofs.Bits.{has_its_bits, has_limits, neither, no_bits, no_limits, not_high, not_low}
use Rattle.gate.proofs.Gate.limits.Goals as goal

pub returns-in_err-bits_of-in-AtLeast-clause-bits : goal.returns-in_err-bits_of-in-AtLeast-clause-bits
unfolding not_numbers
returns-in_err-bits_of-in-AtLeast-clause-bits c =
    no_limits _ (rw c.in-AtLeast.is (no_bits _ c.in_err-bits_of-in-AtLeast.ensures.bits)) _ c.from_residual.ensures.0

pub returns-in_err-bits_of-in-AtMost-clause-bits : goal.returns-in_err-bits_of-in-AtMost-clause-bits
unfolding not_numbers
returns-in_err-bits_of-in-AtMost-clause-bits c =
    no_limits _ (rw c.in-AtMost.is (no_bits _ c.in_err-bits_of-in-AtMost.ensures.bits)) _ c.from_residual-in_err-bits_of-in-AtMost.ensures.0

pub returns-in_err-bits_of-in-Within-clause-bits : goal.returns-in_err-bits_of-in-Within-clause-bits
returns-in_err-bits_of-in-Within-clause-bits c =
    no_limits _ (rw c.in-Within.is (not_low _ (no_bits _ c.in_err-bits_of-in-Within.ensures.bits))) _ c.from_residual-in_err-bits_of-in-Within.ensures.0

pub returns-in_err-bits_of-in-Within-2-clause-bits : goal.returns-in_err-bits_of-in-Within-2-clause-bits
returns-in_err-bits_of-in-Within-2-clause-bits c =
    no_limits _ (rw c.in-Within.is (not_high _ (has_its_bits _ c.in_ok-bits_of-in-Within.ensures.bits).0 (no_bits _ c.in_err-bits_of-in-Within-2.ensures.bits))) _
    c.from_residual-in_err-bits_of-in-Within-2.ensures.0

pub returns-in_ok-bits_of-in-AtLeast : goal.returns-in_ok-bits_of-in-AtLeast
unfolding not_numbers Single
returns-in_ok-bits_of-in-AtLeast c =
    let p = has_its_bits _ c.in_ok-bits_of-in-AtLeast.ensures.bits in
    rw c.in-AtLeast.is (record { bits = has_limits _ p.0 p.1 refl; single = c.bits_of.ensures.single })

pub returns-in_ok-bits_of-in-AtMost : goal.returns-in_ok-bits_of-in-AtMost
unfolding not_numbers Single
returns-in_ok-bits_of-in-AtMost c =
    let p = has_its_bits _ c.in_ok-bits_of-in-AtMost.ensures.bits in
    rw c.in-AtMost.is (record { bits = has_limits _ p.0 refl p.1; single = c.bits_of-in-AtMost.ensures.single })

pub returns-in_ok-bits_of-in-Within-2 : goal.returns-in_ok-bits_of-in-Within-2
unfolding Single
returns-in_ok-bits_of-in-Within-2 c =
    let p = has_its_bits _ c.in_ok-bits_of-in-Within.ensures.bits in
    let q = has_its_bits _ c.in_ok-bits_of-in-Within-2.ensures.bits in
    rw c.in-Within.is (record { bits = has_limits _ (neither _ p.0 q.0) p.1 q.1; single = (c.bits_of-in-Within.ensures.single, c.bits_of-in-Within-2.ensures.single) })
