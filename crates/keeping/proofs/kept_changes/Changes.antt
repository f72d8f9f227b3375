-- A call on the record that numbers are read as, written down where it is accepted, is the call on the numbers: a sheet's numbers are read
-- as this sheet, other numbers as a record that is none, and a refused call leaves the page. Assumes nothing.
use mathlib.Core.Path.{◌≡◌, refl, sym, ap, ◌∙◌, subst}
use mathlib.Core.Bool.{Bool, true, false, cond}
use mathlib.Core.List.{List}
use Prim.Native.Nat.{ℕ}
use native.Mathlib.Decide.{ℕ_discrete}
use native.Mathlib.Omega.{arith}
use borrow.Author.Tests.{eq-eqb, ne_eqb}
use lib.Dec.{eqb}
use lib.ListN.{length}
use Rattle.page.specs.Calls.{Call, after, open_at, refusal}
use Rattle.page.specs.declared.Opening.{Opening}
use Rattle.page.specs.Page.{Page, no_page}
use Rattle.page.specs.Reached.{Reached}
use Rattle.page.proofs.Refusals.{after_refused}
use Rattle.sheet.specs.declared.Answer.{Answer}
use Rattle.sheet.specs.declared.Sheet.{Sheet}
use Rattle.sheet.specs.Record.{fresh}
use Rattle.sheet.specs.Statements.{Reads, opened}
use Rattle.keeping.specs.kept_numbers.Numbers.{IsKept, NUMBERS, numbers_of}
use Rattle.keeping.specs.kept_numbers.route.Reading.{sheet_in}
use Rattle.keeping.proofs.kept_numbers.Kept.{kept_read, sheet_kept}
use Rattle.keeping.specs.kept_changes.Changed.{Changed, Opened}

-- what is left of numbers after an answer: the answer's sheet where it was accepted
abbrev left : Answer → List ℕ → List ℕ
left a ns = cond (eqb a.number 0) (numbers_of a.sheet) ns

module _ (ns : List ℕ) (many : length ns ≡ NUMBERS) (c : Call) (a : Answer) (reads : Reads (sheet_in ns) c a) where
  spoiled : (IsKept ns → ⊥) → (a.number ≡ 17) × (left a ns ≡ ns)
  spoiled n =
      let e = ap (λ (b : Answer). b.number) (reads.no_sheet (λ s. n (sheet_kept ns many s))) in
      (e, rw (ne_eqb a.number 0 (omega arith)))

  module _ (pg : Page) (h : Reached pg) (e : ns ≡ numbers_of (fresh pg)) where
    told : a.number ≡ refusal pg c
    told = ap (λ (b : Answer). b.number) (reads.on_page pg h (kept_read h e))

    page_after : Dec (a.number ≡ 0) → left a ns ≡ numbers_of (fresh (after pg c))
    page_after (yes z) = rw (eq-eqb a.number 0 z) (ap (λ (b : Answer). numbers_of b.sheet) (reads.on_page pg h (kept_read h e)))
    page_after (no n) =
        rw (ne_eqb a.number 0 n) (e ∙ ap (λ (p : Page). numbers_of (fresh p)) (sym (after_refused pg c (λ z. n (told ∙ z)))))

  changes : Changed c ns (left a ns) a.number
  changes =
      record { spoiled = spoiled; on_page = λ pg h e. (told pg h e, page_after pg h e (ℕ_discrete a.number 0)) }

-- so of what a call leaves, whichever record it was made on
pub changed : (ns : List ℕ) → length ns ≡ NUMBERS → (c : Call) {s : Sheet} → s ≡ sheet_in ns → (a : Answer) → Reads s c a → {ns' : List ℕ} {r : ℕ} → r ≡ a.number → ns' ≡ left a ns
    → Changed c ns ns' r
changed ns many c e a reads p q =
    let h = changes ns many c a (subst (λ (t : Sheet). Reads t c a) e reads) in
    record {
      spoiled = λ n. let k = h.spoiled n in (p ∙ k.0, q ∙ k.1);
      on_page = λ pg g f. let k = h.on_page pg g f in (p ∙ k.0, q ∙ k.1);
    }

accepted_only : (t : Bool) (new old : Sheet) (ns : List ℕ) → cond t (numbers_of (cond t new old)) ns ≡ cond t (numbers_of new) ns
accepted_only true new old ns = refl
accepted_only false new old ns = refl

pub opens : (g : Opening) (s : Sheet) (a : Answer) → a ≡ opened s g → {ns ns' : List ℕ} {r : ℕ} → r ≡ a.number → ns' ≡ left a ns → Opened g ns ns' r
unfolding opened
opens g s a e {ns} p q =
    record {
      number = p ∙ ap (λ (b : Answer). b.number) e;
      numbers = q ∙ ap (λ (b : Answer). left b ns) e ∙ accepted_only (eqb (refusal no_page (open_at g)) 0) _ s ns;
    }
