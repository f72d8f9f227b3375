-- The lemmas that the goals of `take` want, whatever its tests are named. Assumes nothing.
use mathlib.Core.Path.{◌≡◌, ap, ◌∙◌}
use mathlib.Core.List.{List}
use Prim.Native.Nat.{ℕ, ◌+◌, ◌≤◌}
use native.Mathlib.Omega.{arith}
use borrow.Author.Tests.{eq-eqb, ne_eqb}
use lib.ListN.{drop, length, length-drop}
use Rattle.frame.specs.declared.Frame.{Frame}
use Rattle.frame.specs.input_line.Lines.{line_of}
use Rattle.frame.proofs.input_line.Lines.{line_fits}
use Rattle.frame.specs.declared.exchange.Begun.{Begun}
use Rattle.desk.specs.declared.next_line.Next.TheVariants.{Line, Rest}
use Rattle.desk.specs.next_line.route.Next.{after, next_of}

-- what is said of the line that is read is said of the next one
pub told : (g : Begun) (part : List ℕ) (from : ℕ) {line : List ℕ} → line ≡ line_of (drop from part) → after g line part (from + length line) ≡ next_of g part from
unfolding next_of
told g part from e = ap (λ (l : List ℕ). after g l part (from + length l)) e

pub ruleset wanted = (eq-eqb, ne_eqb, length-drop, line_fits, told)
