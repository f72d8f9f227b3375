-- What the search gives is the nearest pattern, ties to even, of all of both signs, and no second one of its sign is: without their signs it
-- is so by `Rounding`, and a pattern of the other sign is further off than zero. Assumes nothing.
use mathlib.Core.Path.{◌≡◌, refl, sym, ap, ap₂, ◌∙◌}
use mathlib.Core.Bool.{Bool, true, false}
use mathlib.Core.Logic.{◌⊎◌, inl, inr, ⊎_elim}
use Prim.Native.Nat.{ℕ, ◌+◌, ◌-◌, ◌*◌, ◌%◌, ◌^◌, ◌≤◌, ◌<◌}
use native.Mathlib.Decide.{dec_lt}
use native.Mathlib.Omega.{arith}
use lib.Dec.{leb}
use borrow.Author.Tests.{le-leb, leb-false, leb-true, lt-leb}
use Rattle.word.specs.Word.{top}
use Rattle.gate.specs.Value.{exponent, fraction, magnitude, sign}
use Rattle.watts.specs.Nearest.{Finite, Nearest, apart, off}
use Rattle.watts.specs.Watts.{INFINITY, nearer, pattern, scaled, with_sign, worth}
use Rattle.watts.proofs.About.{About, about}
use Rattle.watts.proofs.Rounding.{between, even, nearer_between, nearer_most, nearest}
use Rattle.watts.proofs.Worth.{times_rises}

-- ---- patterns with a sign

pub bare : (x : ℕ) → worth x ≡ worth (x % 2 ^ 31)
unfolding worth exponent fraction
bare x =
    let a : x % 2 ^ 31 % 2 ^ 31 ≡ x % 2 ^ 31 = omega arith in
    let b : x % 2 ^ 31 % 2 ^ 23 ≡ x % 2 ^ 23 = omega arith in
    rw (a, b)

bare_finite : (x : ℕ) → Finite x → x % 2 ^ 31 < INFINITY
unfolding exponent
bare_finite x f = omega (arith, f.number)

pub signs : (minus : Bool) (p : ℕ) → p < 2 ^ 31 → (sign (with_sign minus p) ≡ minus) × (with_sign minus p % 2 ^ 31 ≡ p)
unfolding with_sign sign
signs false p h = (lt-leb (2 ^ 31) p h, omega arith)
signs true p h = (le-leb (2 ^ 31) (2 ^ 31 + p) (omega arith), omega arith)

with_sign_lem : (x : ℕ) → x ≤ top 32 → with_sign (sign x) (x % 2 ^ 31) ≡ x
unfolding with_sign sign top
with_sign_lem x h = go (leb (2 ^ 31) x) refl
  where
    go : (s : Bool) → leb (2 ^ 31) x ≡ s → with_sign s (x % 2 ^ 31) ≡ x
    go true e = omega (arith, leb-true (2 ^ 31) x e)
    go false e = omega (arith, leb-false (2 ^ 31) x e)

pub with_finite : (minus : Bool) (p : ℕ) → p < INFINITY → Finite (with_sign minus p)
unfolding with_sign exponent top
with_finite false p h = record { word = omega arith; number = omega arith }
with_finite true p h = record { word = omega arith; number = omega arith }

with_even : (minus : Bool) (p : ℕ) → p % 2 ≡ 0 → with_sign minus p % 2 ≡ 0
unfolding with_sign
with_even false p h = h
with_even true p h = omega arith

-- how far apart two numbers are: with one sign as whole numbers are, and else no less than the first is from zero
apart_same : (s : Bool) (a b : ℕ) → apart s a s b ≡ between a b
unfolding apart
apart_same false a b = refl
apart_same true a b = refl

apart_either : (s t : Bool) (a b : ℕ) → (apart s a t b ≡ between a b) ⊎ (a ≤ apart s a t b)
unfolding apart
apart_either false false a b = inl refl
apart_either false true a b = inr (omega arith)
apart_either true false a b = inr (omega arith)
apart_either true true a b = inl refl

module _ (minus : Bool) (digits places : ℕ) where
  abbrev N : ℕ
  N = scaled digits

  abbrev v : ℕ → ℕ
  v p = worth p * 10 ^ places

  rises : (a b : ℕ) → a < b → b < INFINITY → v a < v b
  rises a b h k = times_rises digits places a b h (omega arith)

  off_same : (x : ℕ) → sign x ≡ minus → off minus digits places x ≡ between N (v (x % 2 ^ 31))
  unfolding off
  off_same x e = ap₂ (λ (s : Bool) (b : ℕ). apart minus N s (b * 10 ^ places)) e (bare x) ∙ apart_same minus N (v (x % 2 ^ 31))

  off_either : (x : ℕ) → (off minus digits places x ≡ between N (v (x % 2 ^ 31))) ⊎ (N ≤ off minus digits places x)
  unfolding off
  off_either x = rw (bare x) (apart_either minus (sign x) N (v (x % 2 ^ 31)))

  off_with : (q : ℕ) → q < INFINITY → off minus digits places (with_sign minus q) ≡ between N (v q)
  off_with q h =
      let s = signs minus q (omega arith) in
      off_same (with_sign minus q) s.0 ∙ ap (λ (b : ℕ). between N (v b)) s.1

  zero_worth : v 0 ≡ 0
  unfolding worth exponent fraction magnitude
  zero_worth = omega arith

  module _ (p : ℕ) (a : About digits places p) where
    abbrev q : ℕ
    q = nearer (N - v p) (v (p + 1) - N) p

    finite : q < INFINITY
    finite = omega (arith, nearer_most (N - v p) (v (p + 1) - N) p, a.finite)

    near : (b : ℕ) → b < INFINITY → between N (v q) ≤ between N (v b)
    near = nearest v INFINITY rises N p a.finite a.low a.high

    is_nearest : Nearest minus digits places (with_sign minus q)
    is_nearest = record {
      finite = with_finite minus q finite;
      signed = (signs minus q (omega (arith, finite))).0;
      nearest = λ y f. ⊎_elim (λ e. omega (arith, off_with q finite, near (y % 2 ^ 31) (bare_finite y f))) (λ e. omega (arith, off_with q finite, near 0 (omega arith), zero_worth)) (off_either y);
      even = λ y f s other e.
          with_even minus q
          (even v INFINITY rises N p a.finite a.low a.high (y % 2 ^ 31) (bare_finite y f)
          (λ i. other (sym (with_sign_lem y f.word) ∙ ap₂ with_sign s i))
          (sym (off_same y s) ∙ e ∙ off_with q finite));
    }

  -- what the search gives is the nearest
  pub limit_nearest : digits < 2 ^ 64 → Nearest minus digits places (with_sign minus (pattern digits places))
  unfolding pattern
  limit_nearest small = let a = about digits places small in rw a.1.found (is_nearest a.0 a.1)

  -- of two, neither is below the other
  apart_not : (x y : ℕ) → Nearest minus digits places x → Nearest minus digits places y → x % 2 ^ 31 < y % 2 ^ 31 → ⊥
  apart_not x y f g h =
      let hx = off_same x f.signed in
      let hy = off_same y g.signed in
      let one = f.nearest y g.finite in
      let two = g.nearest x f.finite in
      let ex = f.even y g.finite g.signed (λ e. omega (arith, ap (λ (n : ℕ). n % 2 ^ 31) e)) (omega arith) in
      let ey = g.even x f.finite f.signed (λ e. omega (arith, ap (λ (n : ℕ). n % 2 ^ 31) e)) (omega arith) in
      let k = bare_finite y g.finite in
      let c : x % 2 ^ 31 + 1 < INFINITY = omega arith in
      let less = nearer_between v INFINITY rises N (x % 2 ^ 31) (y % 2 ^ 31) (x % 2 ^ 31 + 1) (omega arith) (omega arith) k (omega arith) in
      omega (arith, less, off_with (x % 2 ^ 31 + 1) c, f.nearest (with_sign minus (x % 2 ^ 31 + 1)) (with_finite minus (x % 2 ^ 31 + 1) c))

  -- no second pattern of that sign is the nearest
  pub nearest_once : (x y : ℕ) → Nearest minus digits places x → Nearest minus digits places y → x ≡ y
  nearest_once x y f g = go (dec_lt (x % 2 ^ 31) (y % 2 ^ 31)) (dec_lt (y % 2 ^ 31) (x % 2 ^ 31))
    where
      go : Dec (x % 2 ^ 31 < y % 2 ^ 31) → Dec (y % 2 ^ 31 < x % 2 ^ 31) → x ≡ y
      go (yes l) m = absurd (apart_not x y f g l)
      go (no l) (yes m) = absurd (apart_not y x g f m)
      go (no l) (no m) =
          sym (with_sign_lem x f.finite.word) ∙ ap₂ with_sign (f.signed ∙ sym g.signed) (omega arith) ∙ with_sign_lem y g.finite.word
