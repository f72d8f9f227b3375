-- What is held says which number comes before the table, and that where none does the record has a page; and a record with a page that
-- has its bands and notes beside it is held. Assumes nothing.
use mathlib.Core.Path.{◌≡◌, refl, sym, ap, ◌∙◌, subst}
use mathlib.Core.Bool.{Bool, true, false, false≢true}
use mathlib.Core.List.{List}
use Prim.Native.Nat.{ℕ, ◌<◌}
use native.Mathlib.Decide.{dec_lt, ℕ_discrete}
use native.Mathlib.Omega.{arith}
use borrow.Author.Tests.{eq-eqb, ne_eqb}
use lib.ListN.{length}
use Rattle.word.specs.declared.Edition.{Edition}
use Rattle.word.specs.Edition.{same}
use Rattle.rule.specs.declared.Rule.{Rule}
use Rattle.rule.specs.Meaning.{RULES}
use Rattle.rule.specs.accept.Accept.{refusal_of}
use Rattle.rule.specs.declared.bits.Fixed.TheVariants.{Bits}
use Rattle.search.specs.rows.route.Rows.{rules_in}
use Rattle.page.specs.Calls.{Call, add, refusal}
use Rattle.page.specs.Page.{MARKS, OpenPage, no_page, page, rules_on}
use Rattle.page.proofs.Refusals.{add_bad, add_fits, add_full, add_other}
use Rattle.sheet.specs.declared.slate.Head.{Head}
use Rattle.sheet.specs.slate.route.Held.{Beside, Held, Room}
use Rattle.sheet.specs.slate.route.Numbers.{before, rule_number}
use Rattle.sheet.specs.slate.route.Shape.{stands_so}
use Rattle.sheet.proofs.slate.Holding.{rules_places}
use Rattle.sheet.proofs.slate.Numbers.{number_before, number_full, number_none, number_other, number_own}
use Rattle.sheet.proofs.slate.Told.{unread}
use Rattle.sheet.specs.slate.stepping.route.Steps.{Refused}
use Rattle.sheet.specs.slate.stepping.route.Steps.Refused.{before_first, own_ground}
use Rattle.sheet.specs.declared.Sheet.{Sheet}
use Rattle.sheet.specs.route.Held.{packed}
use Rattle.sheet.specs.route.Shape.{is_sheet}
use Rattle.sheet.specs.route.Stands.{RuleSeen, Standing, Stands, before_table, by_table, no_sheet}
use Rattle.sheet.specs.Statements.{IsSheet, Reads, answers}
use Rattle.sheet.proofs.Stands.{has_page, has_width, is_blank_lem, known, refused_standing}
use Rattle.sheet.proofs.Tested.{passes_sheet, sheet_passes}
use Rattle.sheet.proofs.Ways.{refused_reads}

-- the record that a slate stands for passes where the slate does
pub packed_told : (h : Head) (rows : List (List ℕ)) (marks : List ℕ) → is_sheet (packed h rows marks) ≡ stands_so h (rules_in rows) marks
unfolding is_sheet packed
packed_told h rows marks = unread h (rules_in rows) marks false (Bits 0 0)

module _ {h : Head} {rows : List (List ℕ)} {marks : List ℕ} (held : Held h rows marks) where
  abbrev s : Sheet
  s = packed h rows marks

  -- as many places as a record has
  pub rules_length : length s.rules ≡ RULES
  unfolding packed
  rules_length = rules_places held.room

  pub marks_length : length s.marks ≡ MARKS
  unfolding packed
  marks_length = held.room.marks_places

  is_sheet_lem : h.stands ≡ true → IsSheet s
  is_sheet_lem e = passes_sheet s rules_length marks_length (packed_told h rows marks ∙ sym held.tested ∙ e)

  pub stands_so_lem : Stands s (before h.stands h.opening.width)
  unfolding before packed
  stands_so_lem = go h.stands refl (ℕ_discrete h.opening.width 0)
    where
      go : (b : Bool) → h.stands ≡ b → Dec (h.opening.width ≡ 0) → Stands s (before b h.opening.width)
      go false e d = no_sheet (λ i. false≢true (sym e ∙ held.tested ∙ sym (packed_told h rows marks) ∙ sheet_passes s i))
      go true e (yes z) = rw (eq-eqb h.opening.width 0 z) (is_blank_lem (is_sheet_lem e) z)
      go true e (no z) = rw (ne_eqb h.opening.width 0 z) (has_width (is_sheet_lem e) z)

  module _ (e : before h.stands h.opening.width ≡ 0) where
    pub on_sheet : Standing s
    on_sheet = has_page stands_so_lem e

  -- a refusal is the table's, whatever its number
  pub refused_after : {own n : ℕ} {Ground : Type 0} → Refused h own Ground n → (c : Call) → refusal no_page c ≡ 1 → (own ≡ 0 → ⊥)
      → ((p : Standing s) → Ground → refusal (page p.on) c ≡ own) → Reads s c (answers n s)
  refused_after (before_first e z) c blank y table = refused_standing (subst (Stands s) (sym e) stands_so_lem) z c blank
  refused_after (own_ground e g) c blank y table = let p = on_sheet e in refused_reads _ p.reached p.gives c (table p g) y

  -- the rule's number is the table's
  module _ (d : Edition) (u : Rule) (e : before h.stands h.opening.width ≡ 0) where
    abbrev on : OpenPage
    on = (on_sheet e).on

    same_own : refusal_of h.opening.width u ≡ refusal_of on.opening.width u
    unfolding packed
    same_own = ap (λ (w : ℕ). refusal_of w u) (known (on_sheet e)).width

    same_count : h.counts.count ≡ length (rules_on on.entries)
    unfolding packed
    same_count = (known (on_sheet e)).count

    same-edition : same d h.opening.edition ≡ same d on.opening.edition
    unfolding packed
    same-edition = ap (same d) (known (on_sheet e)).edition

    table_number : rule_number h d u ≡ refusal (page on) (add d u)
    table_number = go (same d h.opening.edition) refl (ℕ_discrete (refusal_of h.opening.width u) 0) (dec_lt h.counts.count RULES)
      where
        go : (b : Bool) → same d h.opening.edition ≡ b → Dec (refusal_of h.opening.width u ≡ 0) → Dec (h.counts.count < RULES)
            → rule_number h d u ≡ refusal (page on) (add d u)
        go false f y m = sym (number_other h d u e f) ∙ sym (add_other on d u (sym same-edition ∙ f))
        go true t (no z) m = sym (number_own h d u e t z) ∙ same_own ∙ sym (add_bad on d u (sym same-edition ∙ t) (λ y. z (same_own ∙ y)))
        go true t (yes z) (no m) =
            sym (number_full h d u e t z (omega arith)) ∙ sym (add_full on d u (sym same-edition ∙ t) (sym same_own ∙ z) (omega (arith, same_count)))
        go true t (yes z) (yes m) =
            sym (number_none h d u e t z m) ∙ sym (add_fits on d u (sym same-edition ∙ t) (sym same_own ∙ z) (omega (arith, same_count)))

  pub rule_so : (d : Edition) (u : Rule) → RuleSeen s d u (rule_number h d u)
  rule_so d u = go (ℕ_discrete (before h.stands h.opening.width) 0)
    where
      go : Dec (before h.stands h.opening.width ≡ 0) → RuleSeen s d u (rule_number h d u)
      go (no z) = subst (RuleSeen s d u) (number_before h d u z) (before_table stands_so_lem z)
      go (yes e) = subst (RuleSeen s d u) (sym (table_number d u e)) (by_table (on_sheet e))

-- held again
module _ {h : Head} {rows : List (List ℕ)} {marks : List ℕ} where
  pub still_held : Standing (packed h rows marks) → h.stands ≡ true → Room rows marks → Beside h rows → Held h rows marks
  still_held p e room b =
      record {
        room = room;
        tested = e ∙ sym (sheet_passes (packed h rows marks) (record { on = page p.on; reached = p.reached; gives = p.gives })) ∙ packed_told h rows marks;
        beside = λ t z. b;
      }
