-- `sweep` meets its contract: a walk finds the word, or comes to one before which none passes. Assumes nothing.
use mathlib.Core.List.{List}
use Prim.Native.Nat.{ℕ}
use lib.ListN.{take}
use Rattle.word.specs.Word.{top}
use Rattle.rule.specs.declared.band.Band.{Band}
use Rattle.search.specs.rows.route.Bands.{all_seen}
use Rattle.search.specs.rows.route.Rows.{bands_in}
use Rattle.search.proofs.sweep.Ways.{same_found}
use Rattle.search.proofs.sweep.sweep.Goals.{Start}
use Rattle.search.proofs.sweep.sweep.Goals as goal

abbrev tops : Start → ℕ
tops s = top s.args.force.width.bits

abbrev bands : Start → List Band
bands s = all_seen s.args.turned (tops s) (take s.args.force.count (bands_in s.args.rows.now))

pub rested-requires : goal.rested-requires
rested-requires c =
    let l = c.walk.ensures.tired _ c.in-Tired.is in record { width = c.requires.width; start_bound = (l.1, c.requires.start_bound.1); tidy = c.requires.tidy }

pub returns-in-At : goal.returns-in-At
returns-in-At c = c.walk.ensures.at _ c.in-At.is

pub returns-in-Nothing : goal.returns-in-Nothing
returns-in-Nothing c = c.walk.ensures.nothing c.in-Nothing.is

pub returns-in-Tired : goal.returns-in-Tired
returns-in-Tired c =
    let l = c.walk.ensures.tired _ c.in-Tired.is in
    same_found (bands (goal.at.returns-in-Tired c).Start) _ (tops (goal.at.returns-in-Tired c).Start) c.args.start _ _ l.0 l.1 l.2 c.rested.ensures
