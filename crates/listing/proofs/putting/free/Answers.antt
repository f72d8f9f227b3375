-- `free` meets its contract: no bit is fixed where the mask is 0. Assumes nothing.
use mathlib.Core.Path.{sym, ap}
use borrow.Author.Rules.{rules}
use Rattle.listing.specs.putting.route.Put.{is_free}
use Rattle.listing.proofs.putting.free.Goals as goal

pub returns-in-Bits : goal.returns-in-Bits
unfolding is_free
returns-in-Bits c = ap is_free (sym c.in-Bits.is)

pub returns-in-Clash : goal.returns-in-Clash
unfolding is_free
returns-in-Clash c = search rules
