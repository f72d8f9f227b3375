use Rattle.rule.proofs.rank.+below.Given as goal

abbrev pub decreases-below : goal.decreases-below
decreases-below l = l.p
