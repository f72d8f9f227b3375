-- `take_turn` meets its contract: what the read brought is served. Assumes nothing.
use mathlib.Core.Path.{◌≡◌, refl, sym, subst, ◌∙◌}
use mathlib.Core.Bool.{true}
use mathlib.Core.List.{List}
use Prim.Native.Nat.{ℕ}
use lib.ListN.{take}
use lib.Seq.{length-take-le}
use Rattle.frame.specs.exchange.route.Desk.{Desk}
use Rattle.desk.specs.feed.route.Statements.{desk_of}
use Rattle.coming.specs.declared.hearing.Hearing.{Hearing}
use Rattle.desk.specs.declared.turn.Turn.{Turn}
use Rattle.desk.specs.serving.Passed.{Passed}
use Rattle.desk.specs.one_read.Listened.{Listened}
use Rattle.desk.specs.one_turn.Turned.{Turned}
use Rattle.desk.proofs.one_turn.take_turn.Goals as goal

-- what the read brought is what was heard of it
turned_so : {d : Desk} {input : List ℕ} {r : Turn} {rows : List (List ℕ)} {marks : List ℕ} (h : Hearing) → Listened input h → r.came ≡ h.came
    → (r.taken ≡ true → Passed d (take h.count input) (desk_of r.state rows marks)) → Turned d input r rows marks
turned_so {d} {input} {r} {rows} {marks} h q e p =
    record {
      got = q.got;
      error = q.error;
      hears = record {
        came = e ∙ q.heard.came;
        passed = λ t. subst (λ (k : ℕ). Passed d (take k input) (desk_of r.state rows marks)) q.heard.count (p t);
      };
    }

pub slice_bounds-serve-end : goal.slice_bounds-serve-end
slice_bounds-serve-end c = c.listen-heard.ensures.heard.within

pub slice_bounds-serve-end-2 : goal.slice_bounds-serve-end-2
slice_bounds-serve-end-2 c = sym (length-take-le _ _ c.listen-heard.ensures.heard.within)

pub returns : goal.returns
returns c = record { turned = turned_so _ c.listen-heard.ensures refl c.serve-served.ensures.passed; held_2 = c.serve-served.ensures.held_2 }
