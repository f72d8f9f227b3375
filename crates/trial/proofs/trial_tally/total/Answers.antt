-- `total` meets its contract: one more is joined to the sum so far. Assumes nothing.
use Rattle.std.proofs.Common.{sym, ap, ◌∙◌, ◌∷◌, []}
use Rattle.std.proofs.lemmas.List.Sums.{fold-append}
use Rattle.trial.proofs.trial_tally.total.Goals as goal

pub loop-count-preserved : goal.loop-count-preserved
loop-count-preserved g c =
    c.plus-sum.ensures ∙ ap (λ s. g.C.Count.both s c.in-Some.count) c.loop-count.invariant
    ∙ sym (fold-append g.C.Count.both g.C.Count.empty c.loop-count.yielded (c.in-Some.count ∷ []))
