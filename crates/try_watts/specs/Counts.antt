-- What is counted of decimals that are read: the sum of their bits beside the tally.
use Rattle.std.specs.Prelude.{ℕ}
use Rattle.std.proofs.Common.{ap₂}
use Rattle.trial.specs.declared.trial_tally.Tally.{Tally}
use Rattle.trial.specs.trial_tally.Laws.{CountLaws}
use Rattle.trial.specs.trial_tally.Tally.{none, plus, sum, sum_commutes, sum_assoc, sum_neutral, tally_laws}
use Rattle.try_watts.specs.declared.counts.Seen.{Seen}

abbrev seen : Tally → ℕ → Seen
seen t b = record { tally = t; bits = b }

-- nothing read
abbrev pub nothing : Seen
nothing = seen none 0

-- what both read
abbrev pub both : Seen → Seen → Seen
both a b = seen (plus a.tally b.tally) (sum a.bits b.bits)

pub laws : CountLaws nothing both
laws = record {
  commutes = λ x y. ap₂ seen (tally_laws.commutes x.tally y.tally) (sum_commutes x.bits y.bits);
  assoc = λ x y z. ap₂ seen (tally_laws.assoc x.tally y.tally z.tally) (sum_assoc x.bits y.bits z.bits);
  neutral = λ x y. ap₂ seen (tally_laws.neutral x.tally y.tally) (sum_neutral x.bits y.bits);
}
