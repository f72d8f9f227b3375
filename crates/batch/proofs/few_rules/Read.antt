-- What the batch of the rules that are read of an array gives, the batch of its first rules gives: of an array all rules are read. Assumes
-- nothing.
use mathlib.Core.Path.{◌≡◌, sym, ap, ◌∙◌, subst}
use mathlib.Core.List.{List}
use Prim.Native.Nat.{ℕ, ◌<◌}
use native.Mathlib.Decide.{dec_lt}
use native.Mathlib.Omega.{arith}
use borrow.Author.Tests.{le-ltb, lt-ltb}
use lib.ListN.{length, take}
use lib.Seq.{length-take-le, take_all}
use Rattle.rule.specs.declared.Rule.{Rule}
use Rattle.page.specs.declared.Opening.{Opening}
use Rattle.batch.specs.adds.route.Few.{few}
use Rattle.batch.proofs.Few.{few_high}
use Rattle.batch.specs.declared.course.Batch.{Batch}
use Rattle.batch.specs.course.Batch.{Batched, Ending, Gives, MOST, batch}
use Rattle.batch.specs.course.route.Route.{batch_at}

module _ (rules : List Rule) (long : length rules ≡ MOST) where
  all_read : (n : ℕ) → take (few n) rules ≡ take n rules
  all_read n = go (dec_lt MOST n)
    where
      go : Dec (MOST < n) → take (few n) rules ≡ take n rules
      go (yes l) = rw (lt-ltb MOST n l) (take_all MOST rules (omega (arith, long)) ∙ sym (take_all n rules (omega (arith, long))))
      go (no l) = rw (le-ltb MOST n (omega arith))

  -- where as many rules are given as are read
  pub first_so : (g : Opening) (n k : ℕ) {b b' : List ℕ} {r : Batch} → k ≡ few n → Gives (batch_at g (take k rules) k (length b)) b b' r
      → Batched g (take n rules) b b' r
  unfolding batch_at batch
  first_so g n k {b} {b'} {r} e f = subst (λ (o : Ending). Gives o b b' r) (λ i. batch_at g (first i) (size i) (length b)) f
    where
      first : take k rules ≡ take n rules
      first = ap (λ (j : ℕ). take j rules) e ∙ all_read n

      size : k ≡ length (take n rules)
      size = sym (length-take-le k rules (omega (arith, e, few_high n, long))) ∙ ap length first
