use mathlib.Core.Path.{◌≡◌}
use Prim.Native.Nat.{◌+◌, ◌-◌, ◌*◌, ◌≤◌}
use lib.ListN.{length}
use Rattle.frame.specs.fields.Answers.{LINE, answer_bytes, link_lines}
use Rattle.frame.specs.fields.Put.{PutAt}
use Rattle.frame.proofs.fields.put_links.Given as goal

abbrev pub invariant-loop-i : goal.invariant-loop-i
invariant-loop-i l =
    (l.i ≤ l.n) × (l.end ≤ l.at + LINE * l.i) × (length l.out ≡ length l.initial.out) × PutAt l.initial.out l.at (answer_bytes (link_lines l.edition l.i l.chain)) l.out l.end

abbrev pub decreases-loop-i : goal.decreases-loop-i
decreases-loop-i l = l.n - l.i
