-- `hear` meets its contract, from what it calls. Assumes nothing.
use mathlib.Core.Path.{ap, ap₂, ◌∙◌}
use lib.IntN.{ℤ}
use lib.ListN.{length}
use mir.Syntax.{w32, w64}
use mir.ValLaws.{to_z-of_z}
use Rattle.io.specs.Counts.{clamp_len}
use Rattle.coming.specs.Calls.{came_to}
use Rattle.coming.proofs.hearing.hear.Goals as goal

pub returns : goal.returns
returns c =
    let got = to_z-of_z w64 c.args.got c.ranges.got in
    record {
      came = c.of-came.ensures ∙ ap₂ came_to got (to_z-of_z w32 c.args.error c.ranges.error);
      count = c.count.ensures.value ∙ ap (λ (z : ℤ). clamp_len z (length c.args.input.now)) got;
      within = c.count.ensures.in_bounds.0;
    }
