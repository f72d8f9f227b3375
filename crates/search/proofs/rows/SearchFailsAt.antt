-- The lemmas that the goals of `fails_at` want, whatever its tests are named. Assumes nothing.
use Rattle.search.proofs.rows.Reading.{band_in_lem}
use Rattle.search.proofs.rows.Failing.{inside_fails, outside_fails, whole_fails}
use borrow.Author.Tests.{eq-eqb}
use borrow.Author.Tests.{ne_eqb}

pub ruleset wanted = (band_in_lem, inside_fails, outside_fails, whole_fails, eq-eqb, ne_eqb)
