-- What joining a rule gives in each case: another form, a clash, or more bits. Assumes nothing.
use mathlib.Core.Path.{◌≡◌, ap, ap₂, sym, ◌∙◌}
use mathlib.Core.Bool.{Bool, ◌&&◌, cond}
use Prim.Native.Nat.{ℕ}
use borrow.Author.Tests.{eq-eqb, ne_eqb}
use lib.Bits.{bit_and, bit_or}
use lib.Dec.{eqb}
use Rattle.rule.specs.declared.Rule.{Rule}
use Rattle.rule.specs.declared.bits.Fixed.{Fixed}
use Rattle.rule.specs.declared.bits.Fixed.TheVariants.{Bits, Clash}
use Rattle.rule.specs.bits.route.Fixed.{agrees, both, joined}

module _ (f : Fixed) (r : Rule) where
  pub other_form : (r.form ≡ 7 → ⊥) → f ≡ joined f r
  unfolding joined
  other_form n = sym (ap (λ (b : Bool). cond b (both f r.c1 r.c2) f) (ne_eqb r.form 7 n))

  form_7 : r.form ≡ 7 → both f r.c1 r.c2 ≡ joined f r
  unfolding joined
  form_7 e = sym (ap (λ (b : Bool). cond b (both f r.c1 r.c2) f) (eq-eqb r.form 7 e))

  pub clash_stays : r.form ≡ 7 → f ≡ Clash → Clash ≡ joined f r
  unfolding both
  clash_stays e g = sym (ap (λ (h : Fixed). both h r.c1 r.c2) g) ∙ form_7 e

  -- s and t are what the tests of the rule's constants say
  pub tested : (m v : ℕ) → r.form ≡ 7 → f ≡ Bits m v → {s t : Bool} → eqb (bit_and r.c2 r.c1) r.c2 ≡ s
      → eqb (bit_and v r.c1) (bit_and r.c2 m) ≡ t → cond (s && t) (Bits (bit_or m r.c1) (bit_or v r.c2)) Clash ≡ joined f r
  unfolding both agrees
  tested m v e g p q =
      sym (ap₂ (λ (s t : Bool). cond (s && t) (Bits (bit_or m r.c1) (bit_or v r.c2)) Clash) p q)
      ∙ sym (ap (λ (h : Fixed). both h r.c1 r.c2) g)
      ∙ form_7 e
