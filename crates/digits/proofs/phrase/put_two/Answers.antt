-- `put_two` meets its contract: the second text stands where the first number ends. Assumes nothing.
use mathlib.Core.Path.{◌≡◌}
use mathlib.Core.List.{List, ◌++◌, append_assoc}
use Prim.Native.Nat.{ℕ, ◌+◌}
use native.Mathlib.Omega.{arith}
use lib.ListN.{length, length-append}
use Rattle.digits.specs.phrase.Phrase.{decimal}
use Rattle.digits.proofs.phrase.Putting.{put_as, put_length, put_then}
use Rattle.digits.proofs.phrase.put_two.Goals as goal

-- the whole is as long as its two halves
halves : (a b c d : List ℕ) → length (a ++ (b ++ (c ++ d))) ≡ length (a ++ b) + length (c ++ d)
halves a b c d = rw (← append_assoc a b (c ++ d)) (length-append (a ++ b) (c ++ d))

pub put_one-from-requires : goal.put_one-from-requires
put_one-from-requires c =
    omega (arith, halves c.args.lead.now (decimal c.args.numbers.0) c.args.middle.now (decimal c.args.numbers.1))

pub put_one-requires : goal.put_one-requires
put_one-requires c =
    omega (arith, halves c.args.lead.now (decimal c.args.numbers.0) c.args.middle.now (decimal c.args.numbers.1), put_length c.put_one-from.ensures, c.put_one-from.ensures.1)

pub returns : goal.returns
returns c =
    put_as (append_assoc c.args.lead.now (decimal c.args.numbers.0) (c.args.middle.now ++ decimal c.args.numbers.1)) (put_then c.put_one-from.ensures c.put_one.ensures)
