-- The lemmas that the goals of `refusal_of` want, whatever its tests are named. Assumes nothing.
use Rattle.gating.proofs.gate_refusal.Seen.{seen_blank, seen_fits, seen_full, seen_limit, seen_none, seen_other}

pub ruleset wanted = (seen_blank, seen_fits, seen_full, seen_limit, seen_none, seen_other)
