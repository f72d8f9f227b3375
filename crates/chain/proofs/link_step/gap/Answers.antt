-- `gap` meets its contract: it ends before the next word that has the bits, or at the top word. Assumes nothing.
use mathlib.Core.Path.{sym, ap, ◌∙◌}
use native.Mathlib.Omega.{arith}
use Rattle.word.proofs.Searched.{first_is}
use Rattle.chain.specs.Links.{before}
use Rattle.chain.proofs.OnBands.{gap_next, gap_top}
use Rattle.chain.proofs.link_step.gap.Goals as goal

pub returns-then-p-top : goal.returns-then-p-top
returns-then-p-top c = c.top-top.ensures ∙ gap_top _ _ _ (c.if-p-top.true ∙ c.top-top.ensures)

pub returns-in_default : goal.returns-in_default
unfolding before
returns-in_default c =
    c.top-top.ensures ∙ ap (before _) (sym c.in_default.is) ∙ gap_next _ _ _ _ c.next.ensures

pub overflow_sub-result : goal.overflow_sub-result
overflow_sub-result c =
    omega (arith, (first_is _ _ _ _ (sym c.next.ensures ∙ c.in-Some.is)).low)

pub returns : goal.returns
unfolding before
returns c =
    ap (before _) (sym c.in-Some.is) ∙ gap_next _ _ _ _ c.next.ensures
