-- `no_rules` meets its contract. Assumes nothing.
use mathlib.Core.Bool.{true}
use Rattle.rule.specs.declared.bits.Fixed.TheVariants.{Bits}
use Rattle.search.specs.verdict.Kept.{keeps}
use Rattle.search.specs.noting.route.Note.{note_at}
use Rattle.search.proofs.noting.no_rules.Goals as goal

pub returns : goal.returns
unfolding note_at
returns c = λ i. record { known = true; kept = keeps 2 0 (c.top.ensures i); fixed = Bits 0 0 }
