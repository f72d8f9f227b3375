-- `all_have` meets its contract: as many words have the bits as there are, up to the last, which is looked at. Assumes nothing.
use mathlib.Core.Path.{◌∙◌}
use native.Mathlib.Omega.{arith}
use borrow.Author.Tests.{ne_eqb}
use Rattle.rule.specs.bits.route.Fixed.{has_bits}
use Rattle.picture.proofs.shade.Counted.{last_decides, no_fewer, some_lack}
use Rattle.picture.proofs.shade.all_have.Goals as goal

pub overflow_sub-having : goal.overflow_sub-having
overflow_sub-having c =
    omega (arith, c.below.ensures, c.below-2.ensures, no_fewer (has_bits c.args.fixed) c.args.words.from c.args.words.to c.requires.1)

pub returns-else-having-words : goal.returns-else-having-words
returns-else-having-words c =
    ne_eqb _ _ c.if-having-words.false ∙
    some_lack (has_bits c.args.fixed) c.args.words.from c.args.words.to c.requires.1 (λ e. omega (arith, e, c.below.ensures, c.below-2.ensures, c.if-having-words.false))

pub returns-then-having-words : goal.returns-then-having-words
returns-then-having-words c =
    c.has.ensures ∙ last_decides (has_bits c.args.fixed) c.args.words.from c.args.words.to c.requires.1 (omega (arith, c.below.ensures, c.below-2.ensures, c.if-having-words.true))
