-- `feed` meets its contract. The loop's invariant: the slate holds the record, and what goes on from here goes on from the start. The measure
-- is the bytes left, of which each line uses one at least. Assumes nothing.
use mathlib.Core.Path.{◌≡◌, refl, sym, ◌∙◌}
use Prim.Native.Nat.{ℕ, ◌+◌, ◌-◌, ◌≤◌, ◌<◌}
use native.Mathlib.Omega.{arith}
use lib.ListN.{drop, length, length-drop}
use Rattle.frame.specs.fields.Answers.{ROOM}
use Rattle.frame.specs.input_line.Lines.{with_end}
use Rattle.frame.proofs.input_line.Lines.{end_fits, end_some}
use Rattle.frame.specs.exchange.route.Desk.{desk}
use Rattle.frame.proofs.exchange.Parts.{NextLine, fed_all, fed_full, midway_on, midway_start}
use Rattle.desk.proofs.next_line.Told.{is_line, is_rest}
use Rattle.sheet.specs.route.Held.{packed}
use Rattle.desk.proofs.feed.feed.Goals.{After-none-begun, After-take, After-with-begun, At-loop-used}
use Rattle.desk.proofs.feed.feed.Goals as goal

less : (l : At-loop-used) {next : ℕ} → l.loop-used.used < length l.args.part.now → next ≡ l.loop-used.used + length (with_end (drop l.loop-used.used l.args.part.now)) → length l.args.part.now - next < length l.args.part.now - l.loop-used.used
less l h g =
    let left = length-drop l.loop-used.used l.args.part.now in
    omega (arith, left, end_some (drop l.loop-used.used l.args.part.now) (omega (arith, left)))

within : (l : At-loop-used) {next : ℕ} → next ≡ l.loop-used.used + length (with_end (drop l.loop-used.used l.args.part.now)) → next ≤ length l.args.part.now
within l g = omega (arith, l.loop-used.invariant.0, length-drop l.loop-used.used l.args.part.now, end_fits (drop l.loop-used.used l.args.part.now))

room : (t : After-take) → ROOM ≤ length t.args.out.now - t.loop-used.written
room t = omega (arith, t.if-out-written-lt-ROOM.false, t.loop-used.invariant.1, t.loop-used.invariant.2)

-- the rest of the part goes to the line
rest : (c : After-with-begun) → NextLine (desk (packed c.loop-used.head c.loop-used.rows c.loop-used.marks) c.loop-used.begun) c.args.part.now c.loop-used.used c.loop-used.out c.loop-used.written c.loop-used.out (desk (desk (packed c.loop-used.head c.loop-used.rows c.loop-used.marks) c.loop-used.begun).sheet c.with-begun.result) (length c.args.part.now) c.loop-used.written
rest c =
    is_rest (desk (packed c.loop-used.head c.loop-used.rows c.loop-used.marks) c.loop-used.begun) c.args.part.now c.loop-used.used c.loop-used.invariant.0 (sym c.in-Rest.is ∙ c.take.ensures) c.with-begun.ensures c.loop-used.out c.loop-used.written (omega (arith, c.loop-used.invariant.1, c.loop-used.invariant.2))

answered : (c : After-none-begun) → NextLine (desk (packed c.loop-used.head c.loop-used.rows c.loop-used.marks) c.loop-used.begun) c.args.part.now c.loop-used.used c.loop-used.out c.loop-used.written c.answer-after.new.out (desk (packed c.answer-after.result.head c.answer-after.new.rows c.answer-after.new.marks) c.none-begun.result) c.in-Line.next c.answer-after.result.end
answered c =
    is_line (desk (packed c.loop-used.head c.loop-used.rows c.loop-used.marks) c.loop-used.begun) c.args.part.now c.loop-used.used c.loop-used.invariant.0 (sym c.in-Line.is ∙ c.take.ensures) c.answer-after.ensures.frame_answered.answered c.none-begun.ensures

pub loop-used-init : goal.loop-used-init
loop-used-init c = (omega arith, omega arith, refl, c.requires.chain_len, c.requires.held, midway_start _ _ _)

pub overflow_sub-out : goal.overflow_sub-out
overflow_sub-out c = omega (arith, c.loop-used.invariant.1, c.loop-used.invariant.2)

pub take-requires : goal.take-requires
take-requires c = c.loop-used.invariant.0

pub slice_bounds-with-start : goal.slice_bounds-with-start
slice_bounds-with-start c = c.loop-used.invariant.0

pub loop-used-smaller-in-Rest : goal.loop-used-smaller-in-Rest
loop-used-smaller-in-Rest c = less (goal.at.loop-used-smaller-in-Rest c).At-loop-used c.loop-used-test.true (rest (goal.at.loop-used-smaller-in-Rest c).After-with-begun).goes

pub loop-used-preserved-in-Rest : goal.loop-used-preserved-in-Rest
loop-used-preserved-in-Rest c = (
  within (goal.at.loop-used-preserved-in-Rest c).At-loop-used (rest (goal.at.loop-used-preserved-in-Rest c).After-with-begun).goes,
  c.loop-used.invariant.1,
  c.loop-used.invariant.2,
  c.loop-used.invariant.3,
  c.loop-used.invariant.4,
  midway_on c.loop-used.invariant.5 (rest (goal.at.loop-used-preserved-in-Rest c).After-with-begun) (room (goal.at.loop-used-preserved-in-Rest c).After-take) c.loop-used-test.true,
)

pub answer-after-requires : goal.answer-after-requires
answer-after-requires c = record { held = c.loop-used.invariant.4; chain_len = (c.loop-used.invariant.3, omega (arith, room (goal.at.answer-after-requires c).After-take, c.loop-used.invariant.1, c.loop-used.invariant.2)) }

pub loop-used-smaller : goal.loop-used-smaller
loop-used-smaller c = less (goal.at.loop-used-smaller c).At-loop-used c.loop-used-test.true (answered (goal.at.loop-used-smaller c).After-none-begun).goes

pub loop-used-preserved : goal.loop-used-preserved
loop-used-preserved c =
    let t = answered (goal.at.loop-used-preserved c).After-none-begun in (
      within (goal.at.loop-used-preserved c).At-loop-used t.goes,
      omega (arith, t.puts.ends, t.fits, room (goal.at.loop-used-preserved c).After-take, c.loop-used.invariant.1, c.loop-used.invariant.2),
      c.answer-after.auto.out ∙ c.loop-used.invariant.2,
      c.answer-after.ensures.chain_len_2.0,
      c.answer-after.ensures.frame_answered.held,
      midway_on c.loop-used.invariant.5 t (room (goal.at.loop-used-preserved c).After-take) c.loop-used-test.true,
    )

pub shape_of-out-after-loop-used : goal.shape_of-out-after-loop-used
shape_of-out-after-loop-used c = c.loop-used.invariant.2

pub returns-after-loop-used : goal.returns-after-loop-used
returns-after-loop-used c = record { fed_on = record { so = fed_all _ c.loop-used.invariant.5 c.loop-used-test.false; held = c.loop-used.invariant.4 }; chain_len_2 = c.loop-used.invariant.3 }

pub shape_of-out-then-out-written-lt-ROOM : goal.shape_of-out-then-out-written-lt-ROOM
shape_of-out-then-out-written-lt-ROOM c = c.loop-used.invariant.2

pub returns-then-out-written-lt-ROOM : goal.returns-then-out-written-lt-ROOM
returns-then-out-written-lt-ROOM c = record { fed_on = record { so = fed_full _ c.loop-used.invariant.5 (omega (arith, c.if-out-written-lt-ROOM.true, c.loop-used.invariant.2)); held = c.loop-used.invariant.4 }; chain_len_2 = c.loop-used.invariant.3 }
