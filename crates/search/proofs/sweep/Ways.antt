-- The ways in which a walk ends, and what a search from a later word finds of one from an earlier. Assumes nothing.
use mathlib.Core.Path.{◌≡◌, sym, ◌∙◌, subst}
use mathlib.Core.List.{List}
use Prim.Native.Nat.{ℕ, suc, ◌-◌, ◌≤◌}
use native.Mathlib.Omega.{arith}
use Rattle.std.specs.Prelude.{Option}
use Rattle.std.specs.Prelude.{Some, None}
use Rattle.word.specs.Search.{first}
use Rattle.word.proofs.Search.{first_at, first_none}
use Rattle.word.proofs.Searched.{first_is, first_nothing}
use Rattle.rule.specs.declared.band.Band.{Band}
use Rattle.rule.specs.declared.bits.Fixed.{Fixed}
use Rattle.search.specs.rows.route.Bands.{passes}
use Rattle.search.specs.leap.route.Leapt.{NoneFrom}
use Rattle.search.proofs.leap.Steps.{further}
use Rattle.search.specs.declared.sweep.Walked.{Walked}
use Rattle.search.specs.declared.sweep.Walked.TheVariants.{At, Nothing, Tired}
use Rattle.search.specs.sweep.route.Walked.{Walks}

at_same : (x y : ℕ) → At x ≡ At y → x ≡ y
at_same x y e = cc

tired_same : (x y : ℕ) → Tired x ≡ Tired y → x ≡ y
tired_same x y e = cc

at_nothing : (x : ℕ) → At x ≡ Nothing → ◌≡◌ {A = ℕ} 0 1
at_nothing x e = cc

at_tired : (x y : ℕ) → At x ≡ Tired y → ◌≡◌ {A = ℕ} 0 1
at_tired x y e = cc

tired_nothing : (x : ℕ) → Tired x ≡ Nothing → ◌≡◌ {A = ℕ} 0 1
tired_nothing x e = cc

-- a contradiction shows anything
none : {A : Type 0} → ◌≡◌ {A = ℕ} 0 1 → A
none e = absurd (omega arith)

module _ (bs : List Band) (f : Fixed) (t s k : ℕ) where
  pub walks_at : (x : ℕ) → Some x ≡ first (passes bs f) (suc t - s) s → Walks bs f t s k (At x)
  walks_at x h =
      record {
        at = λ y e. subst (λ (z : ℕ). Some z ≡ first (passes bs f) (suc t - s) s) (at_same x y e) h;
        nothing = λ e. none (at_nothing x e);
        tired = λ p e. none (at_tired x p e);
        patient = λ z p e. at_tired x p e;
      }

  pub walks_none : (r : Walked) → r ≡ Nothing → None ≡ first (passes bs f) (suc t - s) s → Walks bs f t s k r
  walks_none r n h =
      record {
        at = λ y e. none (at_nothing y (sym e ∙ n));
        nothing = λ e. h;
        tired = λ p e. none (tired_nothing p (sym e ∙ n));
        patient = λ z p e. tired_nothing p (sym e ∙ n);
      }

  pub walks_tired : (p : ℕ) → s ≤ p → p ≤ t → NoneFrom bs f s p → (k ≡ 0 → ◌≡◌ {A = ℕ} 0 1) → Walks bs f t s k (Tired p)
  walks_tired p l h n c =
      record {
        at = λ y e. none (at_tired y p (sym e));
        nothing = λ e. none (tired_nothing p e);
        tired = λ q e. subst (λ (z : ℕ). (s ≤ z) × (z ≤ t) × NoneFrom bs f s z) (tired_same p q e) (l, h, n);
        patient = λ z q e. c z;
      }

-- where no word from s on below p passes, a search from p finds what one from s does
pub same_found : (bs : List Band) (f : Fixed) (t s p : ℕ) (r : Option ℕ) → s ≤ p → p ≤ t → NoneFrom bs f s p
    → r ≡ first (passes bs f) (suc t - p) p → r ≡ first (passes bs f) (suc t - s) s
same_found bs f t s p (Some x) l h n e =
    let w = first_is (passes bs f) (suc t - p) p x (sym e) in
    sym (first_at (passes bs f) (suc t - s) s x (omega (arith, w.low)) (omega (arith, w.high)) w.passes (further bs f s p x n w.none_before))
same_found bs f t s p None l h n e =
    sym (first_none (passes bs f) (suc t - s) s
    (λ y a b. further bs f s p (suc t) n (λ x c d. first_nothing (passes bs f) (suc t - p) p (sym e) x c (omega arith)) y a (omega arith)))
