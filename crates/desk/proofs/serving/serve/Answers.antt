-- `serve` meets its contract. The loop's invariant: what was used of the part went in, and the slate holds the sheet. A feeding writes no
-- more than the buffer holds, and uses at least a byte of what is left. Assumes nothing.
use mathlib.Core.Path.{refl, sym, subst, ◌∙◌}
use mathlib.Core.Bool.{false≢true}
use mathlib.Core.List.{List, []}
use Prim.Native.Nat.{ℕ, ◌+◌, ◌-◌, ◌≤◌}
use native.Mathlib.Omega.{arith}
use lib.ListN.{length}
use lib.Seq.{length-take-le, take_all}
use Rattle.frame.specs.exchange.route.Statements.{nothing}
use Rattle.frame.proofs.exchange.Parts.{feeds_fit, feeds_some}
use Rattle.desk.specs.feed.route.Statements.{desk_of}
use Rattle.desk.specs.serving.Passed.{Passed}
use Rattle.coming.proofs.Rest.{rest_length}
use Rattle.desk.proofs.serving.Passing.{passed_on}
use Rattle.desk.proofs.serving.serve.Goals.{After-feed-fed, Start}
use Rattle.desk.proofs.serving.serve.Given.{Over}
use Rattle.desk.proofs.serving.serve.Goals as goal

-- what a feeding uses of the rest, and what was used before, are within the part
fits : (g : Over) (c : After-feed-fed g) → c.loop-at.at + c.feed-fed.result.used ≤ length c.args.part.now
fits g c = omega (arith, feeds_fit c.feed-fed.ensures.fed_on.so.feeds)

pub loop-at-init : goal.loop-at-init
loop-at-init g c = (omega arith, refl, c.requires.chain_len.0, c.requires.held, record { bytes = []; takes = nothing })

pub feed-fed-requires : goal.feed-fed-requires
feed-fed-requires g c = record { held = c.loop-at.invariant.3; chain_len = c.loop-at.invariant.2 }

pub overflow_add-at : goal.overflow_add-at
overflow_add-at g c = omega (arith, fits g (goal.at.overflow_add-at g c).After-feed-fed, (goal.at.overflow_add-at g c).Start)

pub slice_bounds-send-end-in-loop-at : goal.slice_bounds-send-end-in-loop-at
slice_bounds-send-end-in-loop-at g c = sym (length-take-le _ _ (omega (arith, c.feed-fed.ensures.fed_on.so.puts.fits, c.feed-fed.ensures.fed_on.so.puts.ends)))

pub shape_of-out-then-sent-written : goal.shape_of-out-then-sent-written
shape_of-out-then-sent-written g c = c.feed-fed.auto.out ∙ c.loop-at.invariant.1

pub returns-then-sent-written : goal.returns-then-sent-written
returns-then-sent-written g c = record { passed = (λ e. absurd (false≢true e)); held_2 = (c.feed-fed.ensures.fed_on.held, c.feed-fed.ensures.chain_len_2) }

pub loop-at-smaller : goal.loop-at-smaller
loop-at-smaller g c =
    let rest = rest_length c.args.part.now c.loop-at.at in
    omega (arith, c.loop-at-test.true, fits g (goal.at.loop-at-smaller g c).After-feed-fed, feeds_some c.feed-fed.ensures.fed_on.so.feeds (omega (arith, c.loop-at.invariant.1, c.requires.chain_len.1)) (omega (arith, c.loop-at-test.true, rest)))

pub loop-at-preserved : goal.loop-at-preserved
loop-at-preserved g c = (
  fits g (goal.at.loop-at-preserved g c).After-feed-fed,
  c.feed-fed.auto.out ∙ c.loop-at.invariant.1,
  c.feed-fed.ensures.chain_len_2,
  c.feed-fed.ensures.fed_on.held,
  passed_on c.args.part.now c.loop-at.at c.loop-at.invariant.4 c.feed-fed.ensures.fed_on.so.feeds,
)

pub shape_of-out : goal.shape_of-out
shape_of-out g c = c.loop-at.invariant.1

pub returns : goal.returns
returns g c = record { passed = (λ e. subst (λ (s : List ℕ). Passed (desk_of c.args.state c.args.rows.now c.args.marks.now) s (desk_of c.loop-at.state c.loop-at.rows c.loop-at.marks)) (take_all c.loop-at.at c.args.part.now (omega arith)) c.loop-at.invariant.4); held_2 = (c.loop-at.invariant.3, c.loop-at.invariant.2) }
