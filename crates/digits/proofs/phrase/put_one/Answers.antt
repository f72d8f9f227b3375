-- `put_one` meets its contract: the number stands where the text ends. Assumes nothing.
use native.Mathlib.Omega.{arith}
use lib.ListN.{length-append}
use Rattle.digits.specs.phrase.Phrase.{decimal}
use Rattle.digits.proofs.phrase.Putting.{put_length, put_then}
use Rattle.digits.proofs.phrase.put_one.Goals as goal

pub put_text-from-requires : goal.put_text-from-requires
put_text-from-requires c = omega (arith, length-append c.args.lead.now (decimal c.args.n))

pub put_digits-requires : goal.put_digits-requires
put_digits-requires c = record { le_base = (omega arith, omega arith); x_in_bounds = omega (arith, length-append c.args.lead.now (decimal c.args.n), put_length c.put_text-from.ensures, c.put_text-from.ensures.1) }

pub returns : goal.returns
returns c = put_then c.put_text-from.ensures c.put_digits.ensures
