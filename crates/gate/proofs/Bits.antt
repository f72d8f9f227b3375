-- What the bits of a gate's limits come to: both, or that a limit is not a number. Assumes nothing.
use mathlib.Core.Path.{◌≡◌, refl, ap, ap₂, ◌∙◌}
use mathlib.Core.Bool.{Bool, true, false, cond, false≢true}
use Prim.Native.Nat.{ℕ}
use native.Mathlib.Omega.{arith}
use lib.Ieee.{Float, binary32, is_nan, to_bits}
use Rattle.std.specs.Prelude.{Result, Ok, Err, IsErr}
use Rattle.gate.specs.declared.Four.{Four}
use Rattle.gate.specs.declared.Gate.{Gate}
use Rattle.gate.specs.declared.Gate.TheVariants.{Within}
use Rattle.gate.specs.declared.Refusal.{Refusal}
use Rattle.gate.specs.declared.Refusal.TheVariants.{NotANumber}
use Rattle.gate.specs.declared.Span.{Span}
use Rattle.gate.specs.Gate.{not_numbers, turned}
use Rattle.gate.specs.Paper.{Single}
use Rattle.gate.specs.route.Route.{IsLimit, between_rules, bits_of, high_of, limits_of, low_of}
use Rattle.gate.proofs.Closed.{as_none, as_rules, limits}

-- there is one refusal
pub only_one : {A : Type 0} (r : Result A Refusal) → IsErr r → r ≡ Err NotANumber
only_one (Ok a) e = absurd (false≢true e)
only_one (Err NotANumber) e = refl

module _ {A : Type 0} (a : A) where
  -- a choice that came out so
  chose_none : (b : Bool) {e : Refusal} → Err e ≡ cond b (Err NotANumber) (Ok a) → b ≡ true
  chose_none true h = refl
  chose_none false h = let z : ◌≡◌ {A = ℕ} 0 1 = cc in absurd (omega arith)

  chose_some : (b : Bool) {o : A} → Ok o ≡ cond b (Err NotANumber) (Ok a) → (b ≡ false) × (o ≡ a)
  chose_some true h = let z : ◌≡◌ {A = ℕ} 0 1 = cc in absurd (omega arith)
  chose_some false h = (refl, cc)

module _ (l : Float) where
  pub no_bits : {e : Refusal} → Err e ≡ bits_of l → is_nan l ≡ true
  unfolding bits_of
  no_bits h = chose_none (to_bits binary32 l) (is_nan l) h

  pub has_its_bits : {p : ℕ} → Ok p ≡ bits_of l → (is_nan l ≡ false) × (p ≡ to_bits binary32 l)
  unfolding bits_of
  has_its_bits h = chose_some (to_bits binary32 l) (is_nan l) h

module _ (g : Gate) where
  pub no_limits : not_numbers g ≡ true → (r : Result (ℕ × ℕ) Refusal) → IsErr r → r ≡ limits_of g
  unfolding limits_of
  no_limits n r i = rw n (only_one r i)

  pub has_limits : not_numbers g ≡ false → {p q : ℕ} → p ≡ low_of g → q ≡ high_of g → Ok (p, q) ≡ limits_of g
  unfolding limits_of
  has_limits n d e = rw (n, d, e) refl

  -- and the rules from them
  pub no_rules : {e : Refusal} → Err e ≡ limits_of g → (r : Result Four Refusal) → IsErr r → r ≡ turned g
  unfolding limits_of
  no_rules h r i = only_one r i ∙ as_none g (chose_none (low_of g, high_of g) (not_numbers g) h)

  module _ (single : Single g) {p q : ℕ} (h : Ok (p, q) ≡ limits_of g) where
    known : (not_numbers g ≡ false) × (◌≡◌ {A = ℕ × ℕ} (p, q) (low_of g, high_of g))
    unfolding limits_of
    known = chose_some (low_of g, high_of g) (not_numbers g) h

    low_is : p ≡ low_of g
    low_is = ap (λ (x : ℕ × ℕ). x.0) known.1

    high_is : q ≡ high_of g
    high_is = ap (λ (x : ℕ × ℕ). x.1) known.1

    pub low_limit : IsLimit p
    low_limit = rw low_is (limits g single known.0).0

    pub high_limit : IsLimit q
    high_limit = rw high_is (limits g single known.0).1

    pub its_rules : {r : Four} → r ≡ between_rules p q → Ok r ≡ turned g
    its_rules {r} d = as_rules g single known.0 r (d ∙ ap₂ between_rules low_is high_is)

pub not_low : (s : Span) → is_nan s.low ≡ true → not_numbers (Within s) ≡ true
unfolding not_numbers
not_low s e = rw e refl

pub not_high : (s : Span) → is_nan s.low ≡ false → is_nan s.high ≡ true → not_numbers (Within s) ≡ true
unfolding not_numbers
not_high s d e = rw (d, e) refl

pub neither : (s : Span) → is_nan s.low ≡ false → is_nan s.high ≡ false → not_numbers (Within s) ≡ false
unfolding not_numbers
neither s d e = rw (d, e) refl
