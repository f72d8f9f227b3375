-- The lemmas that the goals of `number_of` want, whatever its tests are named. Assumes nothing.
use native.Mathlib.Numerals.{add-one}
use Rattle.naming.proofs.by_name.Rows.{from_on, none_on}

pub ruleset wanted = (add-one, from_on, none_on)
