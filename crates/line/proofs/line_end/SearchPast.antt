-- The lemmas that the goals of `past` want, whatever its tests are named. Assumes nothing.
use Rattle.line.proofs.token.Classes.{not_same, same_self}

pub ruleset wanted = (same_self, not_same)
