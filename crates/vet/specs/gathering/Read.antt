-- The numbers of a chain as it is read: three for each of its links.
use Rattle.std.specs.Prelude.{List, ℕ, ◌*◌, take}
use Rattle.vet.specs.declared.gathering.chain_read.Chain.{Chain}

abbrev pub numbers_in : Chain → List ℕ
numbers_in c = take (3 * c.links) c.numbers
