-- `rested` meets its contract: a leap passes no word that passes, and a walk that never tires finds the first from there on. Assumes nothing.
use mathlib.Core.Path.{refl}
use mathlib.Core.List.{List}
use Prim.Native.Nat.{ℕ}
use native.Mathlib.Omega.{arith}
use lib.ListN.{take}
use Rattle.word.specs.Word.{top}
use Rattle.rule.specs.declared.band.Band.{Band}
use Rattle.search.specs.rows.route.Bands.{all_seen}
use Rattle.search.specs.rows.route.Rows.{bands_in}
use Rattle.search.proofs.leap.Steps.{found_none}
use Rattle.search.proofs.sweep.Ways.{same_found}
use Rattle.search.proofs.sweep.rested.Goals.{Start}
use Rattle.search.proofs.sweep.rested.Goals as goal

abbrev tops : Start → ℕ
tops s = top s.args.force.width.bits

abbrev bands : Start → List Band
bands s = all_seen s.args.turned (tops s) (take s.args.force.count (bands_in s.args.rows.now))

pub returns-in_default : goal.returns-in_default
returns-in_default c =
    found_none (bands (goal.at.returns-in_default c).Start) _ _ (tops (goal.at.returns-in_default c).Start) c.requires.start_bound.0 (c.leap.ensures.nothing c.in_default.is)

pub walk-requires : goal.walk-requires
walk-requires c =
    let l = c.leap.ensures.word _ c.in-Some.is in record { width = c.requires.width; start_bound = (l.1, c.requires.start_bound.1); tidy = c.requires.tidy }

pub returns-in-At : goal.returns-in-At
returns-in-At c =
    let l = c.leap.ensures.word _ c.in-Some.is in
    same_found (bands (goal.at.returns-in-At c).Start) _ (tops (goal.at.returns-in-At c).Start) c.args.start _ _ l.0 l.1 l.2 (c.walk.ensures.at _ c.in-At.is)

pub returns-in-Nothing : goal.returns-in-Nothing
returns-in-Nothing c =
    let l = c.leap.ensures.word _ c.in-Some.is in
    same_found (bands (goal.at.returns-in-Nothing c).Start) _ (tops (goal.at.returns-in-Nothing c).Start) c.args.start _ _ l.0 l.1 l.2 (c.walk.ensures.nothing c.in-Nothing.is)

pub returns-in-Tired : goal.returns-in-Tired
returns-in-Tired c =
    let z = c.walk.ensures.patient refl _ c.in-Tired.is in
    absurd (omega arith)
