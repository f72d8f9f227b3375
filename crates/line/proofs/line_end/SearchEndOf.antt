-- The lemmas that the goals of `end_of` want, whatever its tests are named. Assumes nothing.
use native.Mathlib.Numerals.{add-one}
use lib.ListN.{drop_of_length-le}
use lib.Seq.{drop-cons}
use Rattle.line.proofs.line_end.Ends.{ends}
use Rattle.line.proofs.token.Classes.{not_same, same_self}

pub ruleset wanted = (add-one, same_self, not_same, drop_of_length-le, drop-cons, ends)
