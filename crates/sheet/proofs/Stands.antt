-- What follows from what a record is found to be: a sheet with width 0 is blank and any other has a page, and 17 and 1 are
-- refused whatever the call. Assumes nothing.
use mathlib.Core.Path.{◌≡◌, refl, sym, ap, subst, subst₂}
use mathlib.Core.List.{◌∷◌}
use Prim.Native.Nat.{ℕ, ◌<◌}
use native.Mathlib.Omega.{arith}
use lib.ListN.{length, take}
use Rattle.word.specs.Word.{IsWidth}
use Rattle.word.specs.declared.Edition.{Edition}
use Rattle.rule.specs.declared.Rule.{Rule}
use Rattle.rule.specs.Meaning.{AllLawful}
use Rattle.sheet.specs.declared.Sheet.{Sheet}
use Rattle.page.specs.Calls.{Call, add, back, changed, forward, refusal, written}
use Rattle.page.specs.Page.{Page, a_rule, laid_aside, marks_on, no_page, page, taken_up, with_entries}
use Rattle.sheet.specs.Record.{fresh}
use Rattle.sheet.specs.route.Stands.{RuleSeen, Standing, Stands, before_table, blank_sheet, by_table, no_sheet, on_page}
use Rattle.sheet.specs.Statements.{IsSheet, Reads, answers}
use Rattle.page.specs.Reached.{Reached, start, step}
use Rattle.sheet.proofs.Fresh.{Given, after_add, after_back, after_forward, cleared, given, stepped_back, stepped_forward, with_rule}
use Rattle.page.proofs.Lawful.{lawful_rules, lawful_width, reached_lawful, reached_page}
use Rattle.page.proofs.Refusals.{added_rule, back_fits, blank_add, forward_fits}
use Rattle.sheet.proofs.Ways.{refused_reads}

pub is_blank_lem : {s : Sheet} → IsSheet s → s.width ≡ 0 → Stands s 1
unfolding fresh
is_blank_lem {s} i z = go i.on i.reached i.gives
  where
    go : (pg : Page) → Reached pg → s ≡ fresh pg → Stands s 1
    go no_page h e = blank_sheet e
    go (page o) h e =
        let l = (reached_lawful h).low in
        let q : s.width ≡ o.opening.width = ap (λ (t : Sheet). t.width) e in
        absurd (omega arith)

pub has_width : {s : Sheet} → IsSheet s → (s.width ≡ 0 → ⊥) → Stands s 0
unfolding fresh
has_width {s} i z = go i.on i.reached i.gives
  where
    go : (pg : Page) → Reached pg → s ≡ fresh pg → Stands s 0
    go no_page h e = absurd (z (ap (λ (t : Sheet). t.width) e))
    go (page o) h e = on_page (record { on = o; reached = h; gives = e })

pub refused_standing : {s : Sheet} {n : ℕ} → Stands s n → (n ≡ 0 → ⊥) → (c : Call) → refusal no_page c ≡ 1 → Reads s c (answers n s)
refused_standing (no_sheet i) z c q =
    record { no_sheet = λ n. refl; on_page = λ pg h e. absurd (i (record { on = pg; reached = h; gives = e })) }
refused_standing (blank_sheet e) z c q = refused_reads no_page start e c q z
refused_standing (on_page p) z c q = absurd (z refl)

-- what is not refused so has a page
pub has_page : {s : Sheet} {n : ℕ} → Stands s n → n ≡ 0 → Standing s
has_page (no_sheet i) z = absurd (omega arith)
has_page (blank_sheet e) z = absurd (omega arith)
has_page (on_page p) z = p

-- a rule that is refused, and one that is not
pub refused_rule : {s : Sheet} {e : Edition} {r : Rule} {n : ℕ} → RuleSeen s e r n → (n ≡ 0 → ⊥) → Reads s (add e r) (answers n s)
refused_rule {e = e} {r = r} (before_table t z) d = refused_standing t d (add e r) (blank_add e r)
refused_rule {e = e} {r = r} (by_table p) d = refused_reads (page p.on) p.reached p.gives (add e r) refl d

pub accepted_rule : {s : Sheet} {e : Edition} {r : Rule} {n : ℕ} → RuleSeen s e r n → n ≡ 0
    → (p : Standing s) × (refusal (page p.on) (add e r) ≡ 0)
accepted_rule (before_table t z) e = absurd (z e)
accepted_rule (by_table p) e = (p, e)

-- what is known of the record by its page
pub known : {s : Sheet} (p : Standing s) → Given p.on s
known p = given _ p.gives (reached_page p.reached)

pub width_of : {s : Sheet} → Standing s → IsWidth s.width
width_of p = subst IsWidth (sym (known p).width) (lawful_width (reached_lawful p.reached))

pub rules_lawful : {s : Sheet} → Standing s → AllLawful s.width (take s.count s.rules)
rules_lawful p =
    let g = known p in
    subst₂ AllLawful (sym g.width) (sym g.rules) (lawful_rules (reached_lawful p.reached))

-- the record with one rule more, and those after a step back and a step forward, stand too
pub with_rule_lem : {s : Sheet} (e : Edition) (r : Rule) (p : Standing s) → refusal (page p.on) (add e r) ≡ 0 → Standing (with_rule (cleared s) r)
unfolding written changed
with_rule_lem e r p q =
    record {
      on = with_entries p.on (a_rule r ∷ p.on.entries);
      reached = step p.reached (add e r) q;
      gives = sym (after_add _ p.gives (reached_page p.reached) r (added_rule _ _ _ q).2);
    }

pub stepped_back_lem : {s : Sheet} (p : Standing s) → 0 < length (marks_on p.on.entries) → Standing (stepped_back s)
unfolding written changed
stepped_back_lem p some =
    record {
      on = laid_aside p.on;
      reached = step p.reached back (back_fits _ some);
      gives = sym (after_back _ p.gives (reached_page p.reached) some);
    }

pub stepped_forward_lem : {s : Sheet} (p : Standing s) → 0 < length p.on.pile → Standing (stepped_forward s)
unfolding written changed
stepped_forward_lem p some =
    record {
      on = taken_up p.on.pile p.on;
      reached = step p.reached forward (forward_fits _ some);
      gives = sym (after_forward _ p.gives (reached_page p.reached) some);
    }
