-- The lemmas that the goals of `walk` want where it is steady or spent, whatever its tests come after. Assumes nothing.
use Rattle.net.proofs.Going.{given_steady, given_spent}

pub ruleset wanted = (given_steady, given_spent)
