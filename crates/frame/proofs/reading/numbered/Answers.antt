-- `numbered` meets its contract: the tests are those of the rows. Assumes nothing.
use mathlib.Core.Path.{sym, ap, ◌∙◌}
use Prim.Native.Nat.{ℕ}
use native.Mathlib.Omega.{arith}
use borrow.Author.Tests.{eqb-true}
use lib.ListN.{length}
use Rattle.word.proofs.Tests.{both_pass}
use Rattle.page.specs.Page.{at_width}
use Rattle.frame.specs.frame_numbers.route.Numbers.{OPENING, adding}
use Rattle.frame.specs.declared.Frame.TheVariants.{Add, Open}
use Rattle.frame.specs.route.Reading.{numbered}
use Rattle.frame.proofs.reading.numbered.Goals as goal

pub number-requires : goal.number-requires
number-requires c =
    let n = length c.args.line.now in
    let h = eqb-true n OPENING (both_pass _ _ (sym c.opens.ensures ∙ c.if-opens.true)).0 in record { from_le_to = (omega arith, omega (arith, h)); to_bound = omega arith }

pub returns-then-opens : goal.returns-then-opens
unfolding numbered
returns-then-opens c =
    rw (sym c.opens.ensures ∙ c.if-opens.true) (ap (λ (w : ℕ). Open (at_width w c.args.edition)) c.number.ensures)

pub rule_of-requires : goal.rule_of-requires
rule_of-requires c = eqb-true _ (adding _) (both_pass _ _ (sym c.adds.ensures ∙ c.if-adds.true)).0

pub returns-then-adds : goal.returns-then-adds
unfolding numbered
returns-then-adds c =
    rw (sym c.opens.ensures ∙ c.if-opens.false, sym c.adds.ensures ∙ c.if-adds.true) (ap (Add c.args.edition) c.rule_of.ensures)

pub returns : goal.returns
unfolding numbered
returns c =
    rw (sym c.opens.ensures ∙ c.if-opens.false, sym c.adds.ensures ∙ c.if-adds.false)
