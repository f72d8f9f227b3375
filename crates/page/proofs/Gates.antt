-- A gate on the page: when it is refused, and that it counts as its four rules, each of which would be accepted by itself. Assumes nothing.
use mathlib.Core.Path.{◌≡◌, refl, sym, ap, ap₂, ◌∙◌}
use mathlib.Core.Bool.{true, false, not, and-false}
use mathlib.Core.List.{List, [], ◌∷◌, ◌++◌, append_assoc, append-nil}
use Prim.Native.Nat.{ℕ, ◌+◌, ◌-◌, ◌≤◌, ◌<◌}
use native.Mathlib.Omega.{arith}
use borrow.Author.Tests.{eq-eqb, eqb-true, le-ltb, lt-ltb, ltb-false, ne_eqb, not-false}
use lib.Dec.{eqb}
use lib.ListN.{length}
use Rattle.word.specs.Word.{top}
use Rattle.rule.specs.declared.Rule.{Rule}
use Rattle.rule.specs.Meaning.{RULES, rule}
use Rattle.rule.specs.accept.Accept.{acceptable, bad_constant, bad_form, bad_sense, every, refusal_of, rule_grounds, stray_bit}
use Rattle.rule.proofs.accept.Grounds.{none_given}
use Rattle.gate.specs.declared.Gate.{Gate}
use Rattle.gate.specs.Gate.{four_of, gate_rules, listed, not_numbers, through}
use Rattle.gate.specs.Paper.{FailsJust}
use Rattle.gate.proofs.Asked.{is_four}
use Rattle.page.specs.Calls.{first_that_applies, grounds, is_blank, refusal, rules_of, set_gate, with_rules}
use Rattle.page.specs.Page.{Entry, OpenPage, a_rule, entries_of, marks_on, no_page, page, rules_on, width_of}

pub blank_gate : (g : Gate) → refusal no_page (set_gate g) ≡ 1
unfolding refusal grounds first_that_applies is_blank
blank_gate g = refl

module _ (o : OpenPage) (g : Gate) where
  abbrev free : ℕ
  free = RULES - length (rules_on o.entries)

  pub gate_width : (o.opening.width ≡ 32 → ⊥) → refusal (page o) (set_gate g) ≡ 13
  unfolding refusal grounds first_that_applies is_blank width_of
  gate_width h = rw (ne_eqb o.opening.width 32 h)

  pub gate_limit : o.opening.width ≡ 32 → not_numbers g ≡ true → refusal (page o) (set_gate g) ≡ 14
  unfolding refusal grounds first_that_applies is_blank width_of
  gate_limit w h = rw (eq-eqb o.opening.width 32 w, h)

  pub gate_full : o.opening.width ≡ 32 → not_numbers g ≡ false → free < 4 → refusal (page o) (set_gate g) ≡ 6
  unfolding refusal grounds first_that_applies is_blank width_of rules_of entries_of
  gate_full w n h = rw (eq-eqb o.opening.width 32 w, n, lt-ltb free 4 h)

  pub gate_fits : o.opening.width ≡ 32 → not_numbers g ≡ false → 4 ≤ free → refusal (page o) (set_gate g) ≡ 0
  unfolding refusal grounds first_that_applies is_blank width_of rules_of entries_of
  gate_fits w n h = rw (eq-eqb o.opening.width 32 w, n, le-ltb free 4 h)

  pub gate_set : refusal (page o) (set_gate g) ≡ 0 → (o.opening.width ≡ 32) × (not_numbers g ≡ false) × (length (rules_on o.entries) + 4 ≤ RULES)
  unfolding refusal grounds is_blank width_of rules_of entries_of
  gate_set e =
      let wide = (none_given 0 _ _ e).1 in
      let number = (none_given 12 _ _ wide).1 in
      let room = (none_given 13 _ _ number).1 in (
        eqb-true o.opening.width 32 (not-false (eqb o.opening.width 32) (none_given 12 _ _ wide).0),
        (none_given 13 _ _ number).0,
        omega (arith, ltb-false free 4 (none_given 5 _ _ room).0),
      )

-- ---- the four rules

-- a rule of form 3, sense 0 whose constants are words is accepted
as_three : (w a b : ℕ) → a ≤ top w → b ≤ top w → refusal_of w (rule 3 0 a b) ≡ 0
unfolding refusal_of rule_grounds first_that_applies bad_form bad_sense bad_constant stray_bit
as_three w a b ha hb = rw (le-ltb (top w) a ha, le-ltb (top w) b hb, and-false (not (eqb b 0)))

just_accepted : {P : ℕ → Type 0} {r : Rule} → FailsJust P r → refusal_of 32 r ≡ 0
just_accepted {r = r} f =
    ap (refusal_of 32) (ap₂ (λ (form sense : ℕ). rule form sense r.c1 r.c2) f.form f.sense)
    ∙ as_three 32 r.c1 r.c2 f.c1_word f.c2_word

pub gate_acceptable : (g : Gate) → every (acceptable 32) (gate_rules g) ≡ true
unfolding every acceptable gate_rules listed
gate_acceptable g =
    let four = is_four (through g) in
    rw (
      eq-eqb (refusal_of 32 (four_of (through g)).first) 0 (just_accepted four.first),
      eq-eqb (refusal_of 32 (four_of (through g)).second) 0 (just_accepted four.second),
      eq-eqb (refusal_of 32 (four_of (through g)).third) 0 (just_accepted four.third),
      eq-eqb (refusal_of 32 (four_of (through g)).fourth) 0 (just_accepted four.fourth),
    )

pub gate_four : (g : Gate) → length (gate_rules g) ≡ 4
unfolding gate_rules listed
gate_four g = refl

-- ---- rules written one below the other

pub with_rules_lem : (rs : List Rule) (es : List Entry) → rules_on (with_rules rs es) ≡ rules_on es ++ rs
unfolding with_rules rules_on
with_rules_lem [] es = sym (append-nil (rules_on es))
with_rules_lem (r ∷ rs) es = with_rules_lem rs (a_rule r ∷ es) ∙ append_assoc (rules_on es) (r ∷ []) rs

pub with_marks : (rs : List Rule) (es : List Entry) → marks_on (with_rules rs es) ≡ marks_on es
unfolding with_rules marks_on
with_marks [] es = refl
with_marks (r ∷ rs) es = with_marks rs (a_rule r ∷ es)
