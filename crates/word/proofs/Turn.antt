-- The wheel of words turned round, x to the top word less x: the first word that passes there is the last one here.
-- Assumes nothing.
use Rattle.std.proofs.Common.{◌≡◌, ℕ, zero, suc, ◌-◌, ◌≤◌, Bool, true, false, sym, refl, ap, ◌∙◌, ap₂, arith}
use Rattle.std.specs.Prelude.{Option}
use Rattle.std.specs.Prelude.{Some, None}
use Rattle.word.specs.Search.{first, last}

-- what was found on the wheel turned round, turned back
abbrev pub back : ℕ → Option ℕ → Option ℕ
back t (Some x) = Some (t - x)
back t None = None

module _ (t : ℕ) (f g : ℕ → Bool) (turn : (x : ℕ) → x ≤ t → g x ≡ f (t - x)) where
  mirrored : (k : ℕ) → k ≤ suc t → back t (first g k (suc t - k)) ≡ last f k
  unfolding first last
  mirrored zero h = refl
  mirrored (suc k) h = go (f k) refl (mirrored k (omega arith))
    where
      again : t - (suc t - suc k) ≡ k
      again = omega arith

      here : g (suc t - suc k) ≡ f k
      here = turn (suc t - suc k) (omega arith) ∙ ap f again

      go : (s : Bool) → f k ≡ s → back t (first g k (suc t - k)) ≡ last f k → back t (first g (suc k) (suc t - suc k)) ≡ last f (suc k)
      go true e i = rw (here ∙ e, e, first, last) (ap Some again)
      go false e i = let d : suc (suc t - suc k) ≡ suc t - k = omega arith in rw (here ∙ e, e, first, last) (rw d i)

  pub turned_back : (p : ℕ) → p ≤ t → last f (suc p) ≡ back t (first g (suc t - (t - p)) (t - p))
  turned_back p h =
      let a : suc p ≡ suc t - (t - p) = omega arith in
      let b : suc t - suc p ≡ t - p = omega arith in
      sym (mirrored (suc p) (omega arith)) ∙ ap₂ (λ (k q : ℕ). back t (first g k q)) a b
