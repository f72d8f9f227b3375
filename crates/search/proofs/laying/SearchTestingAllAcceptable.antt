-- The lemmas that the goals of `all_acceptable` want, whatever its tests are named. Assumes nothing.
use borrow.Author.Tests.{eq-eqb, ne_eqb}
use lib.ListN.{length-map}
use Rattle.rule.proofs.accept.Every.{every_opens, front_ends, front_goes, front_stops}

pub ruleset wanted = (eq-eqb, ne_eqb, length-map, every_opens, front_ends, front_goes, front_stops)
