-- The lemmas that the goals of `none_from` want, whatever its tests are named. Assumes nothing.
use lib.ListN.{length-map}
use Rattle.rule.proofs.accept.Choices.{failed, passed}
use Rattle.rule.proofs.accept.Every.{ends, every_opens, goes, stops}
use Rattle.std.proofs.lemmas.Bool.{not_from_false, not_from_true}

pub ruleset wanted = (length-map, failed, passed, ends, every_opens, goes, stops, not_from_false, not_from_true)
