-- How a walk from run to run ends. A route: what a sweep finds does not name it.
use Rattle.std.specs.Prelude.{◌≡◌, List, ℕ, suc, ◌-◌, ◌≤◌}
use Rattle.std.specs.Prelude.{Option}
use Rattle.std.specs.Prelude.{Some, None}
use Rattle.word.specs.Search.{first}
use Rattle.rule.specs.declared.band.Band.{Band}
use Rattle.rule.specs.declared.bits.Fixed.{Fixed}
use Rattle.search.specs.rows.route.Bands.{passes}
use Rattle.search.specs.leap.route.Leapt.{NoneFrom}
use Rattle.search.specs.declared.sweep.Walked.{Walked}
use Rattle.search.specs.declared.sweep.Walked.TheVariants.{At, Nothing, Tired}

-- the first word from s on that passes, or that there is none; or a word before which none from s on passes, where there was patience to lose
pub record Walks (bs : List Band) (f : Fixed) (t s patience : ℕ) (r : Walked) : Type 0 where
  pub at : (x : ℕ) → r ≡ At x → Some x ≡ first (passes bs f) (suc t - s) s
  pub nothing : r ≡ Nothing → None ≡ first (passes bs f) (suc t - s) s
  pub tired : (p : ℕ) → r ≡ Tired p → (s ≤ p) × (p ≤ t) × NoneFrom bs f s p
  pub patient : patience ≡ 0 → (p : ℕ) → r ≡ Tired p → ◌≡◌ {A = ℕ} 0 1
