-- A test of every number below n: it passes where each of them does. Assumes nothing.
use mathlib.Core.Path.{◌≡◌, refl, sym, ap, ◌∙◌}
use mathlib.Core.Bool.{Bool, true, not, ◌&&◌}
use mathlib.Core.List.{List}
use Prim.Native.Nat.{ℕ, zero, suc, ◌+◌, ◌≤◌, ◌<◌}
use native.Mathlib.Decide.{ℕ_discrete}
use native.Mathlib.Omega.{arith}
use Rattle.word.proofs.Tests.{both_pass}
use Rattle.span.specs.declared.interval.Interval.{Interval}
use Rattle.span.specs.interval.Interval.{hollow, within}
use Rattle.net.specs.declared.net_step.Join.{Join}
use Rattle.net.specs.net_step.Named.{named, word_at}
use Rattle.net.specs.net_tests.Fits.{every, join_at}
use Rattle.std.proofs.Common.{length, get_or, take}
use Rattle.std.specs.List.{list_all}
use Rattle.std.proofs.Math.Bool.{and_comm}
use Rattle.std.proofs.lemmas.List.Folds.{list_all_more}

pub every_holds : (n : ℕ) (f : ℕ → Bool) → every n f ≡ true → (k : ℕ) → k < n → f k ≡ true
unfolding every
every_holds zero f e k h = absurd (omega arith)
every_holds (suc n) f e k h =
    let (here, below) = both_pass (f n) (every n f) e in
    elim (ℕ_discrete k n) [ yes p ↦ ap f p ∙ here | no p ↦ every_holds n f below k (omega arith) ]

pub every_if : (n : ℕ) (f : ℕ → Bool) → ((k : ℕ) → k < n → f k ≡ true) → every n f ≡ true
unfolding every
every_if zero f h = refl
every_if (suc n) f h = rw (h n (omega arith)) (every_if n f (λ k l. h k (omega arith)))

module _ {A : Type 0} (f : A → Bool) (d : A) where
  -- of the first n of a list
  pub every_listed : (n : ℕ) (xs : List A) → n ≤ length xs → every n (λ k. f (get_or xs k d)) ≡ list_all f (take n xs)
  unfolding every
  every_listed zero xs h = refl
  every_listed (suc n) xs h =
      let e : n + 1 ≡ suc n = omega arith in
      let more : list_all f (take (n + 1) xs) ≡ (list_all f (take n xs) && f (get_or xs n d)) = list_all_more f xs n d (omega arith) in
      ap (λ (b : Bool). f (get_or xs n d) && b) (every_listed n xs (omega arith)) ∙ and_comm (f (get_or xs n d)) (list_all f (take n xs)) ∙ sym (rw e at more)

pub named_listed : (n m : ℕ) (js : List Join) → m ≤ length js → every m (λ k. named n (join_at js k)) ≡ list_all (named n) (take m js)
named_listed n m js h = every_listed (named n) _ m js h

pub within_listed : (t n : ℕ) (ws : List Interval) → n ≤ length ws → every n (λ k. within t (word_at ws k)) ≡ list_all (within t) (take n ws)
within_listed t n ws h = every_listed (within t) _ n ws h

pub whole_listed : (n : ℕ) (ws : List Interval) → n ≤ length ws
    → every n (λ k. not (hollow (word_at ws k))) ≡ list_all (λ w. not (hollow w)) (take n ws)
whole_listed n ws h = every_listed (λ w. not (hollow w)) _ n ws h
