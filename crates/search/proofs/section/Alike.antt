-- Every word of a section goes as its first: all bands hold it, or one fails it; and the section ends at the top word, or where a band
-- turns. Assumes nothing.
use mathlib.Core.Path.{◌≡◌, refl, sym, ap, ◌∙◌}
use mathlib.Core.Bool.{Bool, true, false, true≢false, not, ◌&&◌, and-false}
use mathlib.Core.List.{List, [], ◌∷◌}
use Prim.Native.Nat.{ℕ, ◌-◌, ◌≤◌}
use native.Mathlib.Omega.{arith}
use borrow.Author.Tests.{not-false}
use Rattle.word.specs.Search.{climb}
use Rattle.word.proofs.Climb.{Climbed, all_miss, climb_is}
use Rattle.rule.specs.declared.band.Band.{Band}
use Rattle.rule.specs.band.route.Band.{all_hold, holds}
use Rattle.rule.specs.declared.bits.Fixed.{Fixed}
use Rattle.rule.specs.bits.route.Fixed.{has_bits}
use Rattle.search.specs.rows.route.Bands.{passes}
use Rattle.search.specs.declared.section.Section.{Section}
use Rattle.search.specs.section.route.Section.{section, section_at}
use Rattle.search.specs.section.route.Sides.{first_failing, some_fails}

pub first_fails : (bs : List Band) (x : ℕ) → all_hold bs x ≡ false → holds (first_failing bs x) x ≡ false
unfolding all_hold first_failing
first_fails [] x e = absurd (true≢false e)
first_fails (b ∷ bs) x e = go (holds b x) refl (first_fails bs x)
  where
    go : (v : Bool) → holds b x ≡ v → (all_hold bs x ≡ false → holds (first_failing bs x) x ≡ false) → holds (first_failing (b ∷ bs) x) x ≡ false
    go true d later = rw (d, first_failing) (later (sym (ap (λ (v : Bool). v && all_hold bs x) d) ∙ e))
    go false d later = rw (d, first_failing) d

-- who fails at the first band that fails x fails them together
pub one_fails : (bs : List Band) (x y : ℕ) → all_hold bs x ≡ false → holds (first_failing bs x) y ≡ false → all_hold bs y ≡ false
unfolding all_hold first_failing
one_fails [] x y e d = absurd (true≢false e)
one_fails (b ∷ bs) x y e d = go (holds b x) refl (one_fails bs x y)
  where
    go : (v : Bool) → holds b x ≡ v → (all_hold bs x ≡ false → holds (first_failing bs x) y ≡ false → all_hold bs y ≡ false)
        → all_hold (b ∷ bs) y ≡ false
    go true q later =
        ap (λ (v : Bool). holds b y && v) (later (sym (ap (λ (v : Bool). v && all_hold bs x) q) ∙ e) (rw (q, first_failing) at d))
        ∙ and-false (holds b y)
    go false q later = ap (λ (v : Bool). v && all_hold bs y) (rw (q, first_failing) at d)

-- what a section is
pub record Alike (t : ℕ) (bs : List Band) (p : ℕ) (s : Section) : Type 0 where
  pub order : p ≤ s.to
  pub bound : s.to ≤ t
  pub alike : (x : ℕ) → p ≤ x → x ≤ s.to → all_hold bs x ≡ s.held

module _ (t : ℕ) (bs : List Band) (p : ℕ) (word : p ≤ t) where
  held_climb : Climbed (some_fails bs) p t (climb (some_fails bs) (t - p) p)
  held_climb = climb_is (some_fails bs) (t - p) p t (omega arith)

  fail_climb : Climbed (holds (first_failing bs p)) p t (climb (holds (first_failing bs p)) (t - p) p)
  fail_climb = climb_is (holds (first_failing bs p)) (t - p) p t (omega arith)

  pub held_section : all_hold bs p ≡ true → section_at t bs p ≡ section true (climb (some_fails bs) (t - p) p)
  unfolding section_at
  held_section e = rw (e, section_at)

  pub fail_section : all_hold bs p ≡ false → section_at t bs p ≡ section false (climb (holds (first_failing bs p)) (t - p) p)
  unfolding section_at
  fail_section e = rw (e, section_at)

  pub section_alike : Alike t bs p (section_at t bs p)
  unfolding some_fails
  section_alike = go (all_hold bs p) refl
    where
      go : (v : Bool) → all_hold bs p ≡ v → Alike t bs p (section_at t bs p)
      go true e =
          rw (held_section e)
          (record { order = held_climb.order; bound = held_climb.bound; alike = λ x l h. not-false _ (all_miss (some_fails bs) held_climb (ap not e) x l h) })
      go false e =
          rw (fail_section e)
          (record { order = fail_climb.order; bound = fail_climb.bound; alike = λ x l h. one_fails bs p x e (all_miss (holds (first_failing bs p)) fail_climb (first_fails bs p e) x l h) })

-- so a word of a section that is held passes exactly when it has the bits, and none passes of one that fails
module _ {t : ℕ} {bs : List Band} {p : ℕ} {s : Section} (a : Alike t bs p s) (f : Fixed) (x : ℕ) (l : p ≤ x) (h : x ≤ s.to) where
  pub held-passes : s.held ≡ true → passes bs f x ≡ has_bits f x
  unfolding passes
  held-passes e = ap (λ (v : Bool). v && has_bits f x) (a.alike x l h ∙ e)

  pub failing_passes : s.held ≡ false → passes bs f x ≡ false
  unfolding passes
  failing_passes e = ap (λ (v : Bool). v && has_bits f x) (a.alike x l h ∙ e)
