-- The number with which a rule is refused, computed from the tests down to the first that passes. Assumes nothing.
use mathlib.Core.Path.{◌≡◌, refl, sym, ◌∙◌}
use Prim.Native.Nat.{ℕ, ◌≤◌, ◌<◌}
use native.Mathlib.Decide.{dec_lt, ℕ_discrete}
use native.Mathlib.Omega.{arith}
use borrow.Author.Tests.{eq-eqb, le-leb, lt-leb, ne_eqb}
use mathlib.Core.Bool.{Bool, true, false}
use Rattle.word.specs.declared.Edition.{Edition}
use Rattle.word.specs.Edition.{same}
use Rattle.rule.specs.declared.Rule.{Rule}
use Rattle.rule.specs.Meaning.{RULES}
use Rattle.rule.specs.accept.Accept.{refusal_of}
use Rattle.sheet.specs.declared.slate.Head.{Head}
use Rattle.sheet.specs.slate.route.Numbers.{before, rule_number}

module _ (h : Head) (d : Edition) (u : Rule) where
  abbrev first : ℕ
  first = before h.stands h.opening.width

  pub number_before : (first ≡ 0 → ⊥) → first ≡ rule_number h d u
  unfolding rule_number
  number_before z = sym (rw (ne_eqb first 0 z))

  pub number_zero : rule_number h d u ≡ 0 → first ≡ 0
  number_zero e = elim (ℕ_discrete first 0) [ yes z ↦ z | no z ↦ number_before z ∙ e ]

  module _ (none : first ≡ 0) where
    pub number_other : same d h.opening.edition ≡ false → 11 ≡ rule_number h d u
    unfolding rule_number
    number_other t = sym (rw (eq-eqb first 0 none, t))

  module _ (none : first ≡ 0) (told : same d h.opening.edition ≡ true) where
    pub number_own : (refusal_of h.opening.width u ≡ 0 → ⊥) → refusal_of h.opening.width u ≡ rule_number h d u
    unfolding rule_number
    number_own z = sym (rw (eq-eqb first 0 none, told, ne_eqb (refusal_of h.opening.width u) 0 z))

    module _ (good : refusal_of h.opening.width u ≡ 0) where
      pub number_full : RULES ≤ h.counts.count → 6 ≡ rule_number h d u
      unfolding rule_number
      number_full l = sym (rw (eq-eqb first 0 none, told, eq-eqb (refusal_of h.opening.width u) 0 good, le-leb RULES h.counts.count l))

      pub number_none : h.counts.count < RULES → 0 ≡ rule_number h d u
      unfolding rule_number
      number_none l = sym (rw (eq-eqb first 0 none, told, eq-eqb (refusal_of h.opening.width u) 0 good, lt-leb RULES h.counts.count l))

  -- a rule that gets no number would be accepted, and has a place
  pub number_clear : rule_number h d u ≡ 0 → (refusal_of h.opening.width u ≡ 0) × (h.counts.count < RULES)
  number_clear e = go (same d h.opening.edition) refl (ℕ_discrete (refusal_of h.opening.width u) 0) (dec_lt h.counts.count RULES)
    where
      none : first ≡ 0
      none = number_zero e

      go : (b : Bool) → same d h.opening.edition ≡ b → Dec (refusal_of h.opening.width u ≡ 0) → Dec (h.counts.count < RULES) → (refusal_of h.opening.width u ≡ 0) × (h.counts.count < RULES)
      go false t z l = absurd (omega (arith, number_other none t, e))
      go true t (no z) l = absurd (z (number_own none t z ∙ e))
      go true t (yes z) (no l) = absurd (omega (arith, number_full none t z (omega arith), e))
      go true t (yes z) (yes l) = (z, l)
