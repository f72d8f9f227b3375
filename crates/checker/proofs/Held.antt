-- What a record that is laid out gives: where it is a sheet that is not blank, its bands and bits are those of its rules in force and
-- may be looked at; and what the check says of it, whichever it is. Assumes nothing.
use mathlib.Core.Path.{◌≡◌, refl, sym, ap, ap₂, ◌∙◌, subst}
use mathlib.Core.Bool.{Bool, true, false, false≢true, not, ◌&&◌, and-false}
use mathlib.Core.Logic.{◌↔◌}
use mathlib.Core.List.{List, [], ◌∷◌}
use Prim.Native.Nat.{ℕ}
use native.Mathlib.Omega.{arith}
use borrow.Author.Tests.{eq-eqb, ne_eqb}
use lib.Dec.{eqb}
use lib.ListN.{length, take}
use Rattle.word.specs.Word.{IsWidth, top}
use Rattle.rule.specs.declared.Rule.{Rule}
use Rattle.rule.specs.band.route.Band.{AllLaid}
use Rattle.rule.specs.bits.route.Fixed.{Tidy}
use Rattle.rule.proofs.bits.Joined.{fixed_tidy}
use Rattle.search.proofs.rows.Passes.{bands_laid}
use Rattle.sheet.specs.declared.Sheet.{Sheet}
use Rattle.sheet.specs.route.Shape.{is_sheet}
use Rattle.sheet.specs.route.Stands.{Standing}
use Rattle.page.proofs.Lawful.{reached_lawful}
use Rattle.sheet.proofs.slate.Holding.{bands_places, first_drawn}
use Rattle.sheet.proofs.Holding.{marks_length, packed_told, rules_length}
use Rattle.sheet.proofs.Stands.{has_page, has_width, known, rules_lawful, width_of}
use Rattle.sheet.proofs.Tested.{passes_sheet}
use Rattle.search.specs.rows.route.Bands.{Lie}
use Rattle.search.specs.rows.route.OfRules.{OfLawful}
use Rattle.search.specs.rows.route.Rows.{bands_in, rules_in}
use Rattle.sheet.specs.declared.slate.Head.{Head}
use Rattle.sheet.specs.slate.route.Held.{Held}
use Rattle.sheet.specs.route.Held.{packed}
use Rattle.checker.specs.Accepted.{Accepted}
use Rattle.checker.specs.covering.Check.{links_in, shown, shown_by}
use Rattle.checker.specs.Check.{accepts}
use Rattle.checker.proofs.Exactly.{accepted_yes, yes_accepted}

-- what the call promises of its answer
abbrev pub Says : Sheet → List ℕ → Bool → Type 0
Says s ns r = (r ≡ accepts s ns) × (r ≡ true ↔ Accepted s ns)

-- no is right, whatever the record, where the definition says it
pub says_no : (s : Sheet) (ns : List ℕ) → false ≡ accepts s ns → Says s ns false
says_no s ns e = (e, ((λ t. absurd (false≢true t)), λ a. e ∙ accepted_yes s ns a))

pub empty_no : (s : Sheet) (ns : List ℕ) → length ns ≡ 0 → false ≡ accepts s ns
unfolding accepts shown_by links_in shown
empty_no s [] e = sym (ap (λ (b : Bool). is_sheet s && b) (and-false (not (eqb s.width 0))) ∙ and-false (is_sheet s))
empty_no s (n ∷ ns) e = absurd (omega arith)

module _ {h : Head} {rows : List (List ℕ)} {marks : List ℕ} (held : Held h rows marks) where
  abbrev s : Sheet
  s = packed h rows marks

  pub says : (ns : List ℕ) (r : Bool) → r ≡ accepts s ns → Says s ns r
  unfolding packed
  says ns r e =
      (e, ((λ t. yes_accepted s ns (rules_length held) (marks_length held) (sym e ∙ t)), λ a. e ∙ accepted_yes s ns a))

  pub no_sheet_no : h.stands ≡ false → (ns : List ℕ) → false ≡ accepts s ns
  unfolding accepts
  no_sheet_no e ns =
      sym (ap (λ (b : Bool). b && (not (eqb s.width 0) && shown_by s.width (take s.count s.rules) ns)) (packed_told h rows marks ∙ sym held.tested ∙ e))

  pub blank_no : h.opening.width ≡ 0 → (ns : List ℕ) → false ≡ accepts s ns
  unfolding accepts packed
  blank_no z ns =
      sym
      (ap (λ (b : Bool). is_sheet s && (not b && shown_by h.opening.width (take h.counts.count (rules_in rows)) ns)) (eq-eqb h.opening.width 0 z)
      ∙ and-false (is_sheet s))

  module _ (e : h.stands ≡ true) (z : h.opening.width ≡ 0 → ⊥) where
    abbrev pub own : List Rule
    own = take h.counts.count (rules_in rows)

    standing : Standing s
    unfolding packed
    standing = has_page (has_width (passes_sheet s (rules_length held) (marks_length held) (packed_told h rows marks ∙ sym held.tested ∙ e)) z) refl

    pub width_so : IsWidth h.opening.width
    unfolding packed
    width_so = width_of standing

    pub own_rules : OfLawful h.opening.width (take h.counts.count (bands_in rows)) h.fixed own
    unfolding packed
    own_rules =
        let d = (held.beside e z).drawn in
        (rules_lawful standing, first_drawn h.opening.width h.counts.given (rules_in rows) (bands_in rows) d.own h.counts.count (known standing).given_low d.bits)

    pub lie_so : Lie (top h.opening.width) h.counts.count (bands_in rows)
    unfolding packed
    lie_so =
        let o = own_rules in
        record {
          places = bands_places held.room;
          count = omega (arith, (known standing).count, (reached_lawful standing.reached).rules_fit);
          laid = subst (AllLaid (top h.opening.width)) (sym o.1.own) (bands_laid h.opening.width width_so.low own o.0);
        }

    pub tidy_so : Tidy h.fixed
    tidy_so = subst Tidy (sym own_rules.1.bits) (fixed_tidy own)

    pub shown_so : (ns : List ℕ) → shown_by h.opening.width own ns ≡ accepts s ns
    unfolding accepts packed
    shown_so ns =
        sym (ap₂ (λ (a b : Bool). a && (not b && shown_by h.opening.width own ns)) (packed_told h rows marks ∙ sym held.tested ∙ e) (ne_eqb h.opening.width 0 z))
