-- `fixed_in` meets its contract. Assumes nothing.
use borrow.Author.Tests.{eq-eqb, ne_eqb}
use Rattle.search.specs.noting.route.Note.{fixed_in}
use Rattle.search.proofs.noting.fixed_in.Goals as goal

pub returns-then-clash-eq1 : goal.returns-then-clash-eq1
unfolding fixed_in
returns-then-clash-eq1 c = simp (eq-eqb _ _ c.if-clash-eq1.true)

pub returns : goal.returns
unfolding fixed_in
returns c = simp (ne_eqb _ _ c.if-clash-eq1.false)
