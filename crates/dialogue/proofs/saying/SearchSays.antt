-- The lemmas that the goals of `says` want. Assumes nothing.
use Rattle.dialogue.proofs.saying.Case.{by_case, by_gate, by_mistake}

pub ruleset wanted = (by_case, by_gate, by_mistake)
