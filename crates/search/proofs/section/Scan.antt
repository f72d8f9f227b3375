-- The bands looked at one after another, with the nearest end so far, come to the section by search: where two tests are taken
-- together a climb goes as far as the nearer of the two goes. Assumes nothing.
use mathlib.Core.Path.{◌≡◌, refl, sym, ap, ◌∙◌}
use mathlib.Core.Bool.{Bool, true, false, not, ◌&&◌, cond}
use mathlib.Core.Logic.{inl}
use mathlib.Core.List.{List, [], ◌∷◌}
use Prim.Native.Nat.{ℕ, zero, suc, min, ◌+◌, ◌-◌, ◌≤◌}
use native.Mathlib.Omega.{arith}
use Rattle.word.specs.Search.{climb}
use Rattle.word.proofs.Climb.{climb_is}
use Rattle.word.proofs.Search.{climb_same, climb_to}
use Rattle.rule.specs.declared.band.Band.{Band}
use Rattle.rule.specs.band.route.Band.{all_hold, holds, other_side}
use Rattle.rule.proofs.band.Law.{other_holds}
use Rattle.search.specs.declared.section.Section.{Section}
use Rattle.search.specs.section.route.Section.{section, section_at}
use Rattle.search.specs.section.route.Sides.{fails, first_failing, some_fails}

-- where the other side of a band holds, the band fails
pub other_climb : (b : Band) (k p : ℕ) → climb (holds (other_side b)) k p ≡ climb (fails b) k p
unfolding fails
other_climb b k p = climb_same (holds (other_side b)) (fails b) k p (λ y l h. other_holds b y)

-- the nearer of two ends
module _ (f g : ℕ → Bool) where
  nearer : (k p : ℕ) → climb (λ (x : ℕ). not (f x && g x)) k p ≡ min (climb (λ (x : ℕ). not (f x)) k p) (climb (λ (x : ℕ). not (g x)) k p)
  unfolding climb
  nearer zero p = omega arith
  nearer (suc k) p = go (f (suc p)) (g (suc p)) refl refl (nearer k (suc p))
    where
      above : (h : ℕ → Bool) → suc p ≤ climb h k (suc p)
      above h = (climb_is h k (suc p) (suc p + k) refl).order

      go : (a b : Bool) → f (suc p) ≡ a → g (suc p) ≡ b
          → climb (λ (x : ℕ). not (f x && g x)) k (suc p) ≡ min (climb (λ (x : ℕ). not (f x)) k (suc p)) (climb (λ (x : ℕ). not (g x)) k (suc p))
          → climb (λ (x : ℕ). not (f x && g x)) (suc k) p ≡ min (climb (λ (x : ℕ). not (f x)) (suc k) p) (climb (λ (x : ℕ). not (g x)) (suc k) p)
      go true true e d later = rw (e, climb) (rw (d, climb) later)
      go true false e d later = rw (e, climb) (rw (d, climb) (omega (arith, above (λ (x : ℕ). not (f x)))))
      go false true e d later = rw (e, climb) (rw (d, climb) (omega (arith, above (λ (x : ℕ). not (g x)))))
      go false false e d later = rw (e, climb) (rw (d, climb) (omega arith))

module _ (t p : ℕ) where
  -- what is found with these bands left to look at and e the nearest end so far
  unfoldable pub scan : List Band → ℕ → Section
  scan [] e = section true e
  scan (b ∷ bs) e = cond (holds b p) (scan bs (min e (climb (fails b) (t - p) p))) (section false (climb (holds b) (t - p) p))

  pub scan_held : (b : Band) (bs : List Band) (e : ℕ) → holds b p ≡ true → scan (b ∷ bs) e ≡ scan bs (min e (climb (fails b) (t - p) p))
  unfolding scan
  scan_held b bs e h = rw (h, scan)

  pub scan_fails : (b : Band) (bs : List Band) (e : ℕ) → holds b p ≡ false → scan (b ∷ bs) e ≡ section false (climb (holds b) (t - p) p)
  unfolding scan
  scan_fails b bs e h = rw (h, scan)

  pub scan_none : (e : ℕ) → scan [] e ≡ section true e
  unfolding scan
  scan_none e = refl

module _ (t p : ℕ) (word : p ≤ t) where
  ends : List Band → ℕ
  ends bs = climb (some_fails bs) (t - p) p

  ends_none : ends [] ≡ t
  unfolding ends some_fails all_hold
  ends_none = climb_to (some_fails []) (t - p) p t word (omega arith) (λ y l h. refl) (inl (omega arith))

  ends_more : (b : Band) (bs : List Band) → ends (b ∷ bs) ≡ min (climb (fails b) (t - p) p) (ends bs)
  unfolding ends some_fails all_hold fails
  ends_more b bs = nearer (holds b) (all_hold bs) (t - p) p

  -- the section, no further than e
  abbrev up_to : ℕ → List Band → Section
  up_to e bs = cond (all_hold bs p) (section true (min e (ends bs))) (section false (climb (holds (first_failing bs p)) (t - p) p))

  scanned : (bs : List Band) (e : ℕ) → e ≤ t → scan t p bs e ≡ up_to e bs
  unfolding all_hold first_failing
  scanned [] e h = let q : e ≡ min e (ends []) = omega (arith, ends_none) in scan_none t p e ∙ ap (section true) q
  scanned (b ∷ bs) e h = go (holds b p) refl (scanned bs (min e (climb (fails b) (t - p) p)) (omega arith))
    where
      same : min (min e (climb (fails b) (t - p) p)) (ends bs) ≡ min e (ends (b ∷ bs))
      same = omega (arith, ends_more b bs)

      go : (v : Bool) → holds b p ≡ v → scan t p bs (min e (climb (fails b) (t - p) p)) ≡ up_to (min e (climb (fails b) (t - p) p)) bs → scan t p (b ∷ bs) e ≡ up_to e (b ∷ bs)
      go true d later =
          scan_held t p b bs e d
          ∙ later
          ∙ ap (λ (m : ℕ). cond (all_hold bs p) (section true m) (section false (climb (holds (first_failing bs p)) (t - p) p))) same
          ∙ sym
          (ap (λ (v : Bool). cond (v && all_hold bs p) (section true (min e (ends (b ∷ bs)))) (section false (climb (holds (cond v (first_failing bs p) b)) (t - p) p))) d)
      go false d later =
          scan_fails t p b bs e d
          ∙ sym
          (ap (λ (v : Bool). cond (v && all_hold bs p) (section true (min e (ends (b ∷ bs)))) (section false (climb (holds (cond v (first_failing bs p) b)) (t - p) p))) d)

  pub scan_all : (bs : List Band) → scan t p bs t ≡ section_at t bs p
  unfolding section_at ends
  scan_all bs = scanned bs t (omega arith) ∙ ap (λ (m : ℕ). cond (all_hold bs p) (section true m) (section false (climb (holds (first_failing bs p)) (t - p) p))) near
    where
      near : min t (climb (some_fails bs) (t - p) p) ≡ climb (some_fails bs) (t - p) p
      near = omega (arith, (climb_is (some_fails bs) (t - p) p t (omega arith)).bound)
