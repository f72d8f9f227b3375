-- Which pages accepted calls give: those with a width from 1 to the widest of their edition on which, with every waiting stretch written back, there are at
-- most so many rules and marks, and no rule that would be refused. Each accepted call keeps that: a step back and a step forward
-- because what is so restored stays the same, the others because they clear the pile. Assumes nothing.
use mathlib.Core.Path.{◌≡◌, refl, sym, ap, ap₂, subst, ◌∙◌}
use mathlib.Core.Bool.{true, ◌&&◌}
use mathlib.Core.List.{List, [], ◌∷◌, ◌++◌}
use Prim.Native.Nat.{ℕ, ◌≤◌, ◌<◌}
use native.Mathlib.Omega.{arith}
use borrow.Author.Tests.{eq-eqb, eqb-true}
use lib.ListN.{length, length-append}
use Rattle.word.specs.Word.{IsWidth}
use Rattle.word.specs.Edition.{terms}
use Rattle.word.proofs.Editions.{widest_held}
use Rattle.word.proofs.Tests.{both_pass}
use Rattle.rule.specs.declared.Rule.{Rule}
use Rattle.rule.specs.Meaning.{AllLawful, RULES}
use Rattle.rule.specs.accept.Accept.{acceptable, every, refusal_of}
use Rattle.rule.proofs.accept.Accepted.{all_lawful}
use Rattle.rule.proofs.accept.Every.{every_append}
use Rattle.gate.specs.Gate.{gate_rules}
use Rattle.page.specs.Calls.{Call, add, ask, back, changed, forward, mark, open_at, refusal, set_gate, written}
use Rattle.page.specs.Page.{Entry, MARKS, OpenPage, Page, a_mark, a_rule, laid_aside, marks_on, new_page, no_page, page, restored, rules_on, taken_up, with_entries, with_pile}
use Rattle.page.specs.Reached.{Reached, start, step}
use Rattle.page.proofs.Gates.{blank_gate, gate_acceptable, gate_four, gate_set, with_marks, with_rules_lem}
use Rattle.page.proofs.Refusals.{added_rule, back_marked, blank_add, blank_back, blank_forward, blank_mark, marked_room, opened_width}
use Rattle.page.proofs.Stretches.{Stretches, is_stretch, stretch-struck}

-- ---- pages

-- what is asked of what stands on an open page
pub record LawfulOpen (o : OpenPage) : Type 0 where
  pub low : 1 ≤ o.opening.width
  pub high : o.opening.width ≤ (terms o.opening.edition).widest
  pub rules_fit : length (rules_on o.entries) ≤ RULES
  pub marks_fit : length (marks_on o.entries) ≤ MARKS
  pub allowed : every (acceptable o.opening.width) (rules_on o.entries) ≡ true

-- what is asked of an open page and its pile
pub record LawfulPile (o : OpenPage) : Type 0 where
  pub restores : LawfulOpen (with_entries o (restored o.pile o.entries))
  pub stretches : Stretches o.pile

abbrev pub LawfulPage : Page → Type 0
LawfulPage no_page = Unit {0}
LawfulPage (page o) = LawfulPile o

module _ (o : OpenPage) where
  abbrev pub Lawfully : List Entry → Type 0
  Lawfully es = LawfulOpen (with_entries o es)

  pub under_rule : (es : List Entry) (r : Rule) → Lawfully (a_rule r ∷ es) → Lawfully es × (refusal_of o.opening.width r ≡ 0) × (length (rules_on es) < RULES)
  unfolding rules_on marks_on every acceptable
  under_rule es r l =
      let h : length (rules_on es) < RULES = omega (arith, l.rules_fit, length-append (rules_on es) (r ∷ [])) in
      let a = both_pass _ _ (rw every_append at l.allowed) in (
        record { low = l.low; high = l.high; rules_fit = omega arith; marks_fit = l.marks_fit; allowed = a.0 },
        eqb-true _ 0 (both_pass _ true a.1).0,
        h,
      )

  pub under_mark : (es : List Entry) → Lawfully (a_mark ∷ es) → Lawfully es × (length (marks_on es) < MARKS)
  unfolding rules_on marks_on
  under_mark es l =
      let h : length (marks_on es) < MARKS = omega (arith, l.marks_fit, length-append (marks_on es) (length (rules_on es) ∷ [])) in
      (record { low = l.low; high = l.high; rules_fit = l.rules_fit; marks_fit = omega arith; allowed = l.allowed }, h)

  under_stretch : (s es : List Entry) → Lawfully (s ++ es) → Lawfully es
  under_stretch [] es l = l
  under_stretch (a_rule r ∷ s) es l = under_stretch s es (under_rule (s ++ es) r l).0
  under_stretch (a_mark ∷ s) es l = under_stretch s es (under_mark (s ++ es) l).0

  under_pile : (ss : List (List Entry)) (es : List Entry) → Lawfully (restored ss es) → Lawfully es
  unfolding restored
  under_pile [] es l = l
  under_pile (s ∷ ss) es l = under_stretch s es (under_pile ss (s ++ es) l)

-- what stands is lawful by itself
standing_lawful : {o : OpenPage} → LawfulPile o → LawfulOpen o
standing_lawful {o} h =
    let l = under_pile o o.pile o.entries h.restores in
    record { low = l.low; high = l.high; rules_fit = l.rules_fit; marks_fit = l.marks_fit; allowed = l.allowed }

-- ---- accepted calls give lawful pages

cleared_lawful : (o : OpenPage) (es : List Entry) → Lawfully o es → LawfulPile (with_entries o es)
unfolding restored
cleared_lawful o es l = record { restores = l; stretches = tt }

aside_lawful : (o : OpenPage) → 0 < length (marks_on o.entries) → LawfulPile o → LawfulPile (laid_aside o)
unfolding laid_aside restored
aside_lawful o some l =
    record {
      restores = subst (λ (es : List Entry). Lawfully o (restored o.pile es)) (sym (stretch-struck o.entries)) l.restores;
      stretches = (is_stretch o.entries some, l.stretches);
    }

taken_lawful : (o : OpenPage) (es : List Entry) (ss : List (List Entry)) → LawfulPile (with_pile o es ss) → LawfulPile (taken_up ss (with_pile o es ss))
unfolding taken_up restored
taken_lawful o es [] l = l
taken_lawful o es (s ∷ ss) l = record { restores = l.restores; stretches = l.stretches.1 }

writes_lawful : (pg : Page) (c : Call) → LawfulPage pg → refusal pg c ≡ 0 → LawfulPage (written pg c)
unfolding written changed rules_on marks_on every acceptable restored
writes_lawful pg (open_at g) l e =
    let h = opened_width pg g e in
    cleared_lawful (new_page g) [] (record { low = h.0; high = h.1; rules_fit = omega arith; marks_fit = omega arith; allowed = refl })
writes_lawful no_page (add d r) l e = absurd (omega (arith, blank_add d r))
writes_lawful (page o) (add d r) l e =
    let h = added_rule o d r e in
    let k = standing_lawful l in
    cleared_lawful o _
    (record {
      low = k.low;
      high = k.high;
      rules_fit = omega (arith, length-append (rules_on o.entries) (r ∷ []));
      marks_fit = k.marks_fit;
      allowed = rw every_append (ap₂ ◌&&◌ k.allowed (rw (eq-eqb _ 0 h.1)));
    })
writes_lawful no_page mark l e = absurd (omega (arith, blank_mark))
writes_lawful (page o) mark l e =
    let h = marked_room o e in
    let k = standing_lawful l in
    cleared_lawful o _
    (record {
      low = k.low;
      high = k.high;
      rules_fit = k.rules_fit;
      marks_fit = omega (arith, length-append (marks_on o.entries) (length (rules_on o.entries) ∷ []));
      allowed = k.allowed;
    })
writes_lawful no_page back l e = absurd (omega (arith, blank_back))
writes_lawful (page o) back l e = aside_lawful o (back_marked o e) l
writes_lawful no_page forward l e = absurd (omega (arith, blank_forward))
writes_lawful (page o) forward l e = taken_lawful o o.entries o.pile l
writes_lawful pg (ask m) l e = l
writes_lawful no_page (set_gate g) l e = absurd (omega (arith, blank_gate g))
writes_lawful (page o) (set_gate g) l e =
    let h = gate_set o g e in
    let k = standing_lawful l in
    let rs = gate_rules g in
    cleared_lawful o _
    (record {
      low = k.low;
      high = k.high;
      rules_fit = omega (arith, ap length (with_rules_lem rs o.entries), length-append (rules_on o.entries) rs, gate_four g);
      marks_fit = omega (arith, ap length (with_marks rs o.entries), k.marks_fit);
      allowed =
          ap (every (acceptable o.opening.width)) (with_rules_lem rs o.entries)
          ∙ every_append (acceptable o.opening.width) (rules_on o.entries) rs
          ∙ ap₂ ◌&&◌ k.allowed (ap (λ (w : ℕ). every (acceptable w) rs) h.0 ∙ gate_acceptable g);
    })

pub reached_page : {pg : Page} → Reached pg → LawfulPage pg
reached_page start = tt
reached_page (step {pg} h c e) = writes_lawful pg c (reached_page h) e

pub reached_lawful : {o : OpenPage} → Reached (page o) → LawfulOpen o
reached_lawful h = standing_lawful (reached_page h)

-- ---- what the leaves ask

module _ {o : OpenPage} (l : LawfulOpen o) where
  pub lawful_rules : AllLawful o.opening.width (rules_on o.entries)
  lawful_rules = all_lawful o.opening.width (rules_on o.entries) l.allowed

  pub lawful_width : IsWidth o.opening.width
  lawful_width = record { low = l.low; high = omega (arith, l.high, widest_held o.opening.edition) }
