-- The lemmas that the goals of `with` want, whatever its tests are named. Assumes nothing.
use native.Mathlib.Numerals.{add-one}
use lib.ListN.{drop_of_length-le}
use Rattle.frame.proofs.exchange.Held.{joined_full, joined_next, put_more}

pub ruleset wanted = (add-one, drop_of_length-le, joined_full, joined_next, put_more)
