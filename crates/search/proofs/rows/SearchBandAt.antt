-- The lemmas that the goals of `band_at` want, whatever its tests are named. Assumes nothing.
use Rattle.search.proofs.rows.Reading.{band_in_lem, seen_plain, seen_turned}

pub ruleset wanted = (band_in_lem, seen_plain, seen_turned)
