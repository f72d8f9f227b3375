-- `read` meets its contract: each number is read at its place. Assumes nothing.
use lib.ListN.{get_or}
use borrow.Author.Rules.{rules}
use Rattle.search.specs.verdict.Kept.{keeps}
use Rattle.keeping.specs.kept_numbers.route.Reading.{sheet_in}
use Rattle.keeping.proofs.read.Goals as goal

pub returns : goal.returns
unfolding sheet_in
returns c = record {
  value = (λ i. record {
    width = (c.opening_in-opening.ensures i).width;
    rules = c.rules_in.ensures i;
    count = get_or c.args.numbers 2 0;
    marks = c.marks_in.ensures i;
    marked = get_or c.args.numbers 3 0;
    kept = keeps (get_or c.args.numbers 6 0) (get_or c.args.numbers 7 0) (get_or c.args.numbers 8 0);
    given = get_or c.args.numbers 4 0;
    waiting = get_or c.args.numbers 5 0;
    edition = (c.opening_in-opening.ensures i).edition;
  });
  numbers_len = search rules;
}
