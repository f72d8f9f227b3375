-- What the tests and the cut of intervals mean: a cut has the words that lie in both, an interval is hollow just where no word lies in
-- it, and is within the top word just where both its ends are. Assumes nothing.
use mathlib.Core.Path.{◌≡◌}
use mathlib.Core.Bool.{true, false}
use Prim.Native.Nat.{ℕ, ◌≤◌}
use native.Mathlib.Omega.{arith}
use borrow.Author.Tests.{le-leb, le-ltb, leb-true, ltb-false, ltb-true}
use lib.Dec.{leb}
use Rattle.word.specs.Word.{top}
use Rattle.word.proofs.Tests.{both_pass}
use Rattle.span.specs.declared.interval.Interval.{Interval}
use Rattle.span.specs.interval.Interval.{In, Words, cut, hollow, within}

module _ {i j : Interval} {a : ℕ} where
  pub in_cut : In i a → In j a → In (cut i j) a
  unfolding cut
  in_cut p q = record { low = omega arith; high = omega arith }

pub not_hollow : {i : Interval} {a : ℕ} → In i a → hollow i ≡ false
unfolding hollow
not_hollow {i} m = le-ltb i.high i.low (omega arith)

pub hollow_none : (i : Interval) → hollow i ≡ true → {a : ℕ} → In i a → ⊥
unfolding hollow
hollow_none i e m = absurd (omega (arith, ltb-true i.high i.low e, m.low, m.high))

pub ordered : (i : Interval) → hollow i ≡ false → i.low ≤ i.high
unfolding hollow
ordered i e = ltb-false i.high i.low e

module _ (t : ℕ) (i : Interval) where
  pub within_both : within t i ≡ true → (i.low ≤ t) × (i.high ≤ t)
  unfolding within
  within_both e =
      let (l, h) = both_pass (leb i.low t) (leb i.high t) e in (leb-true i.low t l, leb-true i.high t h)

  pub both_within : i.low ≤ t → i.high ≤ t → within t i ≡ true
  unfolding within
  both_within l h = rw (le-leb i.low t l, le-leb i.high t h)

pub is_words : (w : ℕ) (i : Interval) → within (top w) i ≡ true → hollow i ≡ false → Words w i
is_words w i b c = record { order = ordered i c; top = (within_both (top w) i b).1 }
