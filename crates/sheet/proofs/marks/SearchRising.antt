-- The lemmas that the goals of `rising` want, whatever its tests are named. Assumes nothing.
use mathlib.Core.Path.{refl, sym, ◌∙◌}
use Prim.Native.Nat.{ℕ, ◌-◌}
use native.Mathlib.Omega.{arith}
use borrow.Author.Tests.{le-leb, lt-leb}
use lib.Dec.{leb}
use Rattle.rule.proofs.accept.Every.{Opens, front_ends, front_goes, front_stops}
use Rattle.page.specs.route.Shape.{rising}

pub opens : (low high : ℕ) → Opens (leb low) (λ ms. rising low ms high) (λ m ms. rising m ms high)
unfolding rising
opens low high = record { opens = λ m ms. refl }

pub ruleset wanted = (le-leb, lt-leb, front_ends, front_goes, front_stops, opens)
