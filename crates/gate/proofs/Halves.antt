-- Where the fitting words of a half are those from one number on and before another, the search finds these ends. Assumes nothing.
use mathlib.Core.Path.{◌≡◌, refl, sym, ap, ap₂, ◌∙◌}
use mathlib.Core.Bool.{Bool, true, false, ◌&&◌, and-false, cond, false≢true}
use Prim.Native.Nat.{ℕ, suc, ◌-◌, ◌≤◌, ◌<◌, zero-le}
use native.Mathlib.Decide.{dec_lt}
use native.Mathlib.Omega.{arith}
use lib.Dec.{leb, ltb}
use borrow.Author.Tests.{le-leb, le-ltb, lt-leb, lt-ltb}
use Rattle.std.specs.Prelude.{Option}
use Rattle.std.specs.Prelude.{Some, None}
use Rattle.word.specs.Search.{first, last}
use Rattle.word.specs.Word.{half}
use Rattle.word.proofs.Search.{first_at, first_none, last_at}
use Rattle.word.proofs.Searched.{last_is}
use Rattle.gate.specs.Gate.{over, under}

pub last_none : (t : ℕ → Bool) (k : ℕ) → ((y : ℕ) → y < k → t y ≡ false) → last t k ≡ None
last_none t k none = go (last t k) refl
  where
    go : (r : Option ℕ) → last t k ≡ r → last t k ≡ None
    go None e = e
    go (Some x) e = let is = last_is t k x e in absurd (false≢true (sym (none x is.high) ∙ is.passes))

-- the words of a half that pass are those from `from` on and before `past`
pub record Runs (t : ℕ → Bool) (from past : ℕ) : Type 0 where
  pub end : past ≤ half 32
  pub is : (y : ℕ) → y < half 32 → t y ≡ (leb from y && ltb y past)

module _ (t : ℕ → Bool) (from past : ℕ) (run : Runs t from past) where
  pub inside : (y : ℕ) → from ≤ y → y < past → t y ≡ true
  inside y h k = run.is y (omega (arith, run.end)) ∙ ap₂ ◌&&◌ (le-leb from y h) (lt-ltb y past k)

  pub before : (y : ℕ) → y < half 32 → y < from → t y ≡ false
  before y k h = run.is y k ∙ ap (λ (b : Bool). b && ltb y past) (lt-leb from y h)

  pub after : (y : ℕ) → y < half 32 → past ≤ y → t y ≡ false
  after y k h = run.is y k ∙ ap (λ (b : Bool). leb from y && b) (le-ltb y past h) ∙ and-false (leb from y)

  pub nowhere : past ≤ from → (y : ℕ) → y < half 32 → t y ≡ false
  nowhere e y k = go (dec_lt y from)
    where
      go : Dec (y < from) → t y ≡ false
      go (yes h) = before y k h
      go (no h) = after y k (omega arith)

  pub under_is : under t ≡ cond (ltb from past) from (half 32)
  unfolding under
  under_is = go (dec_lt from past)
    where
      go : Dec (from < past) → elim (first t (half 32) 0) as (λ (r : Option ℕ). ℕ) [ Some y ↦ y | None ↦ half 32 ] ≡ cond (ltb from past) from (half 32)
      go (yes h) =
          rw (first_at t (half 32) 0 from zero-le (omega (arith, run.end)) (inside from (omega arith) h) (λ y a b. before y (omega (arith, run.end)) b), lt-ltb from past h)
      go (no h) = rw (first_none t (half 32) 0 (λ y a b. nowhere (omega arith) y (omega arith)), le-ltb from past (omega arith))

  pub over_is : over t ≡ cond (ltb from past) past (half 32)
  unfolding over
  over_is = go (dec_lt from past)
    where
      go : Dec (from < past) → elim (last t (half 32)) as (λ (r : Option ℕ). ℕ) [ Some y ↦ suc y | None ↦ half 32 ] ≡ cond (ltb from past) past (half 32)
      go (yes h) =
          rw (last_at t (half 32) (past - 1) (omega (arith, run.end)) (inside (past - 1) (omega arith) (omega arith)) (λ y a b. after y b (omega arith)), lt-ltb from past h) (omega arith)
      go (no h) = rw (last_none t (half 32) (λ y b. nowhere (omega arith) y b), le-ltb from past (omega arith))
