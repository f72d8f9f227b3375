-- The lemmas that the goals of `in_a_row` want, whatever its tests are named. Assumes nothing.
use native.Mathlib.Numerals.{add-one}

pub ruleset wanted = (add-one)
