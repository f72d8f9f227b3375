-- `goes_on` meets its contract: the kind there is the one, or it is another. Assumes nothing.
use denote.Enum.Bare.{differs_false, differs_true}
use mathlib.Core.Path.{sym}
use Rattle.std.proofs.Common.{rules}
use Rattle.line.specs.contracts.grammar.kind.Kind.{the_type}
use Rattle.line.specs.grammar.Grammar.{goes_on}
use Rattle.line.proofs.grammar.Same.{not_same, same_equal}
use Rattle.line.proofs.grammar.goes_on.Goals as goal

pub returns-then-ne : goal.returns-then-ne
unfolding goes_on
returns-then-ne c = rw (not_same _ _ (differs_true the_type _ _ (sym c.if-ne.ensures)))

pub returns : goal.returns
unfolding goes_on
returns c = rw (same_equal _ _ (differs_false the_type (search rules) _ _ (sym c.if-ne.ensures))) c.agree.ensures
