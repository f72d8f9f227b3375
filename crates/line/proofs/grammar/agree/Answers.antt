-- `agree` meets its contract. The loop's invariant: the rows agree in the kinds that are passed. Assumes nothing.
use denote.Enum.Bare.{differs_false, differs_true}
use native.Mathlib.Omega.{arith}
use mathlib.Core.Path.{refl, sym}
use Rattle.std.proofs.Common.{rules}
use Rattle.line.specs.contracts.grammar.kind.Kind.{the_type}
use Rattle.line.specs.grammar.Grammar.{agree}
use Rattle.line.proofs.grammar.Same.{differ, not_same, one_more}
use Rattle.line.proofs.grammar.agree.Goals as goal

pub loop-i-init : goal.loop-i-init
unfolding agree
loop-i-init c = (omega arith, refl)

pub returns-then-ne : goal.returns-then-ne
returns-then-ne c =
    sym (differ c.args.a.now c.args.b.now c.args.n c.loop-i.i (omega arith) (not_same _ _ (differs_true the_type _ _ (sym c.if-ne.ensures))))

pub loop-i-preserved : goal.loop-i-preserved
loop-i-preserved c = (omega arith, one_more c.args.a.now c.args.b.now c.loop-i.i (differs_false the_type (search rules) _ _ (sym c.if-ne.ensures)) c.loop-i.invariant.1)
