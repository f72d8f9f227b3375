-- `pack` meets its contract. Assumes nothing.
use borrow.Author.Rules.{rules}
use Rattle.sheet.specs.slate_whole.route.Whole.{whole_of}
use Rattle.sheet.proofs.slate_whole.pack.Goals as goal

pub returns : goal.returns
unfolding whole_of
returns c =
    λ i. record { opening = c.args.head.opening; counts = c.args.head.counts; kept = c.args.head.kept; rules = c.pack-laid.ensures i; marks = c.args.marks.now }
