-- `having` meets its contract: the next word that has the bits is the first up to the end, where it is no later. Assumes nothing.
use mathlib.Core.Path.{sym, ◌∙◌}
use native.Mathlib.Omega.{arith}
use Rattle.word.specs.Word.{top}
use Rattle.rule.specs.bits.route.Fixed.{has_bits}
use Rattle.checker.proofs.reason.Meeting.{next_past, next_within, no_next}
use Rattle.checker.proofs.reason.having.Goals as goal

pub returns-in_default : goal.returns-in_default
returns-in_default c =
    no_next (has_bits c.args.fixed) c.args.from c.args.to (top c.args.width.bits) c.requires.tidy.1 c.requires.tidy.2 (sym c.next.ensures ∙ c.in_default.is)

pub returns-then-to-next : goal.returns-then-to-next
returns-then-to-next c =
    next_past (has_bits c.args.fixed) c.args.from c.args.to (top c.args.width.bits) c.requires.tidy.1 c.requires.tidy.2 _ (sym c.next.ensures ∙ c.in-Some.is) (omega (arith, c.if-to-next.true))

pub returns : goal.returns
returns c =
    next_within (has_bits c.args.fixed) c.args.from c.args.to (top c.args.width.bits) c.requires.tidy.1 c.requires.tidy.2 _ (sym c.next.ensures ∙ c.in-Some.is) (omega (arith, c.if-to-next.false))
