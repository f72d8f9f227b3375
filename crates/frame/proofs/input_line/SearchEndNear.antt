-- The lemmas that the goals of `end_near` want, whatever its tests are named. Assumes nothing.
use native.Mathlib.Numerals.{add-one}
use lib.ListN.{drop_of_length-le}
use Rattle.frame.proofs.input_line.Lines.{line_goes, line_stops}

pub ruleset wanted = (add-one, drop_of_length-le, line_goes, line_stops)
