-- The lemmas that the goals of `seamless` want, whatever its tests are named. Assumes nothing.
use Rattle.rule.proofs.band.Laying.{part_band, whole_band}

pub ruleset wanted = (part_band, whole_band)
