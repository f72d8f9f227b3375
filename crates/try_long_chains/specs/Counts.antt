-- What is counted of sheets with long chains: all of them, and a tally of those whose chain is longer.
use Rattle.std.proofs.Common.{ap₂}
use Rattle.trial.specs.declared.trial_tally.Tally.{Tally}
use Rattle.trial.specs.trial_tally.Laws.{CountLaws}
use Rattle.trial.specs.trial_tally.Tally.{none, plus, tally_laws}
use Rattle.trial_sheets.specs.declared.trial_editions.counts.Seen.{Seen}
use Rattle.trial_sheets.specs.Counts.{nothing_seen, both_seen, seen_laws}
use Rattle.try_long_chains.specs.declared.counts.Tried.{Tried}

abbrev tried : Seen → Tally → Tried
tried s t = record { seen = s; longer = t }

-- no sheet
abbrev pub nothing : Tried
nothing = tried nothing_seen none

-- the sheets of both
abbrev pub both : Tried → Tried → Tried
both a b = tried (both_seen a.seen b.seen) (plus a.longer b.longer)

pub laws : CountLaws nothing both
laws = record {
  commutes = λ x y. ap₂ tried (seen_laws.commutes x.seen y.seen) (tally_laws.commutes x.longer y.longer);
  assoc = λ x y z. ap₂ tried (seen_laws.assoc x.seen y.seen z.seen) (tally_laws.assoc x.longer y.longer z.longer);
  neutral = λ x y. ap₂ tried (seen_laws.neutral x.seen y.seen) (tally_laws.neutral x.longer y.longer);
}
