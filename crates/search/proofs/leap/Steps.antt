-- The steps of a search from s: no word below p passes, and a stretch from p on whose words all fail one band, or all lack the
-- bits, moves p past it. Assumes nothing.
use mathlib.Core.Path.{◌≡◌, refl, sym, ap, ap₂, ◌∙◌, subst}
use mathlib.Core.Bool.{Bool, true, false, ◌&&◌, and_assoc, and-true, and-false}
use mathlib.Core.List.{List, [], ◌∷◌, ◌++◌}
use Prim.Native.Nat.{ℕ, zero, suc, ◌+◌, ◌-◌, ◌≤◌, ◌<◌}
use native.Mathlib.Decide.{dec_lt}
use native.Mathlib.Omega.{arith}
use lib.ListN.{get_or, length, take}
use lib.Seq.{take-suc}
use Rattle.std.specs.Prelude.{Some, None}
use Rattle.word.specs.Search.{climb, first}
use Rattle.word.proofs.Search.{first_at, first_none}
use Rattle.word.proofs.Climb.{all_miss, climb_is}
use Rattle.word.proofs.Searched.{First, first_nothing}
use Rattle.rule.specs.declared.band.Band.{Band}
use Rattle.rule.specs.band.route.Band.{all_hold, holds}
use Rattle.rule.specs.declared.bits.Fixed.{Fixed}
use Rattle.rule.specs.bits.route.Fixed.{has_bits}
use Rattle.search.specs.rows.route.Bands.{passes}
use Rattle.search.specs.leap.route.Leapt.{Leapt, NoneFrom}

hold_more : (bs cs : List Band) (x : ℕ) → all_hold (bs ++ cs) x ≡ (all_hold bs x && all_hold cs x)
unfolding all_hold
hold_more [] cs x = refl
hold_more (b ∷ bs) cs x = ap (λ (t : Bool). holds b x && t) (hold_more bs cs x) ∙ sym (and_assoc (holds b x) (all_hold bs x) (all_hold cs x))

-- one band more
pub hold_suc : (bs : List Band) (i : ℕ) (d : Band) (x : ℕ) → i < length bs → all_hold (take i bs) x ≡ true → holds (get_or bs i d) x ≡ true
    → all_hold (take (suc i) bs) x ≡ true
unfolding all_hold
hold_suc bs i d x h a e =
    ap (λ (cs : List Band). all_hold cs x) (take-suc bs i d h)
    ∙ hold_more (take i bs) (get_or bs i d ∷ []) x
    ∙ ap₂ ◌&&◌ a (and-true (holds (get_or bs i d) x) ∙ e)

-- one band that fails is enough
fails_one : (bs : List Band) (i : ℕ) (d : Band) (x : ℕ) → i < length bs → holds (get_or bs i d) x ≡ false → all_hold bs x ≡ false
unfolding all_hold
fails_one [] i d x h e = absurd (omega arith)
fails_one (b ∷ bs) zero d x h e = ap (λ (t : Bool). t && all_hold bs x) e
fails_one (b ∷ bs) (suc i) d x h e = ap (λ (t : Bool). holds b x && t) (fails_one bs i d x (omega arith) e) ∙ and-false (holds b x)

module _ (bs : List Band) (f : Fixed) (s : ℕ) where
  pub further : (p q : ℕ) → NoneFrom bs f s p → ((x : ℕ) → p ≤ x → x < q → passes bs f x ≡ false) → NoneFrom bs f s q
  further p q n h x a b = go (dec_lt x p)
    where
      go : Dec (x < p) → passes bs f x ≡ false
      go (yes l) = n x a l
      go (no l) = h x (omega arith) b

  past_band : (p q i : ℕ) (d : Band) → i < length bs → NoneFrom bs f s p → ((x : ℕ) → p ≤ x → x < q → holds (get_or bs i d) x ≡ false)
      → NoneFrom bs f s q
  unfolding passes
  past_band p q i d l n h =
      further p q n (λ x a b. ap (λ (t : Bool). t && has_bits f x) (fails_one bs i d x l (h x a b)))

  past_bits : (p q : ℕ) → NoneFrom bs f s p → ((x : ℕ) → p ≤ x → x < q → has_bits f x ≡ false) → NoneFrom bs f s q
  unfolding passes
  past_bits p q n h = further p q n (λ x a b. ap (λ (t : Bool). all_hold bs x && t) (h x a b) ∙ and-false (all_hold bs x))

  pub found_none : (t : ℕ) → s ≤ t → NoneFrom bs f s (suc t) → None ≡ first (passes bs f) (suc t - s) s
  found_none t l n = sym (first_none (passes bs f) (suc t - s) s (λ y a b. n y a (omega arith)))

  pub found_at : (t p : ℕ) → s ≤ p → p ≤ t → NoneFrom bs f s p → all_hold bs p ≡ true → has_bits f p ≡ true
      → Some p ≡ first (passes bs f) (suc t - s) s
  unfolding passes
  found_at t p l h n a b = sym (first_at (passes bs f) (suc t - s) s p l (omega arith) (ap₂ ◌&&◌ a b) n)

  -- past the words before the next one that has the bits, or past the top word where there is none
  pub past_next : (p x k : ℕ) → NoneFrom bs f s p → First (has_bits f) k p x → NoneFrom bs f s x
  past_next p x k n found = past_bits p x n found.none_before

  pub past_all : (t p : ℕ) → p ≤ t → NoneFrom bs f s p → first (has_bits f) (suc t - p) p ≡ None → NoneFrom bs f s (suc t)
  past_all t p h n e = past_bits p (suc t) n (λ x a b. first_nothing (has_bits f) (suc t - p) p e x a (omega arith))

-- the end of a run lies between p and the top word
pub run_range : (b : Band) (t p r : ℕ) → p ≤ t → r ≡ climb (holds b) (t - p) p → (p ≤ r) × (r ≤ t)
run_range b t p r h e =
    let c = climb_is (holds b) (t - p) p t (omega arith) in
    (omega (arith, c.order), omega (arith, c.bound))

-- past a run of words that fail one of the bands
pub past_run : (bs : List Band) (f : Fixed) (s t p r i : ℕ) (d : Band) → i < length bs → p ≤ t
    → NoneFrom bs f s p → holds (get_or bs i d) p ≡ false → r ≡ climb (holds (get_or bs i d)) (t - p) p → NoneFrom bs f s (r + 1)
past_run bs f s t p r i d h word below fails e =
    past_band bs f s p (r + 1) i d h below
    (λ x a b. all_miss (holds (get_or bs i d)) (climb_is (holds (get_or bs i d)) (t - p) p t (omega arith)) fails x a (omega arith))

at_same : (q w : ℕ) → Some q ≡ Some w → q ≡ w
at_same q w e = cc

at_nothing : (q : ℕ) → Some q ≡ None → ◌≡◌ {A = ℕ} 0 1
at_nothing q e = cc

module _ (bs : List Band) (f : Fixed) (t s : ℕ) where
  -- a leap to a word, and to nothing
  pub leapt_to : (q : ℕ) → s ≤ q → q ≤ t → NoneFrom bs f s q → Leapt bs f t s (Some q)
  leapt_to q l h n =
      record { word = λ w e. subst (λ (v : ℕ). (s ≤ v) × (v ≤ t) × NoneFrom bs f s v) (at_same q w e) (l, h, n); nothing = λ e. absurd (let z = at_nothing q e in omega arith) }

  pub leapt_out : NoneFrom bs f s (suc t) → Leapt bs f t s None
  leapt_out n = record { word = λ w e. absurd (let z = at_nothing w (sym e) in omega arith); nothing = λ e. n }
