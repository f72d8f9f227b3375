-- The runs that end later on are no more, and past the end of a run there is one less. Assumes nothing.
use mathlib.Core.Path.{◌≡◌}
use mathlib.Core.Bool.{true, false, or-true}
use mathlib.Core.Logic.{◌⊎◌, inl, inr}
use Prim.Native.Nat.{ℕ, suc, ◌-◌, ◌≤◌, ◌<◌}
use native.Mathlib.Omega.{arith}
use borrow.Author.Tests.{eq-eqb}
use lib.Dec.{eqb}
use Rattle.word.specs.Word.{top}
use Rattle.word.proofs.Count.{count_later, count_past}
use Rattle.rule.specs.declared.Rule.{Rule}
use Rattle.rule.specs.Meaning.{ends, meets, runs}

module _ (w : ℕ) (r : Rule) (p q : ℕ) (order : p ≤ q) (word : q ≤ top w) where
  pub runs_later : runs w r (suc q) ≤ runs w r p
  unfolding runs
  runs_later = count_later (ends w r) (suc (top w) - p) (suc (top w) - suc q) p (suc q) (omega arith) (omega arith)

  pub runs_past : ends w r q ≡ true → runs w r (suc q) < runs w r p
  unfolding runs
  runs_past e = count_past (ends w r) (suc (top w) - p) (suc (top w) - suc q) p q order (omega arith) e

pub run_ends : (w : ℕ) (r : Rule) (q : ℕ) → meets w r q ≡ false → (q ≡ top w) ⊎ (meets w r (suc q) ≡ true) → ends w r q ≡ true
unfolding ends
run_ends w r q e (inl s) = rw (e, eq-eqb q (top w) s)
run_ends w r q e (inr s) = rw (e, s) (or-true (eqb q (top w)))
