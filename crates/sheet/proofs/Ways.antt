-- The ways out of a call: a refusal hands the record back, and an accepted call gives the record of the page after it. A
-- record has one page, so what holds of that page is all that the call's statement asks. Assumes nothing.
use mathlib.Core.Path.{◌≡◌, sym, ap, ap₂, ◌∙◌, subst}
use mathlib.Core.Bool.{Bool, cond}
use Prim.Native.Nat.{ℕ}
use borrow.Author.Tests.{eq-eqb, ne_eqb}
use Rattle.sheet.specs.declared.Answer.{Answer}
use Rattle.sheet.specs.declared.Sheet.{Sheet}
use Rattle.page.specs.Calls.{Call, after, open_at, refusal, written}
use Rattle.page.specs.declared.Opening.{Opening}
use Rattle.page.specs.Page.{Page, new_page, no_page, page}
use Rattle.sheet.specs.Record.{fresh}
use Rattle.page.specs.Reached.{Reached}
use Rattle.sheet.specs.Statements.{Reads, answers, opened}
use Rattle.page.proofs.Refusals.{after_accepted, after_refused}
use Rattle.sheet.proofs.OnePage.{one_page}

module _ (pg : Page) (h : Reached pg) {s : Sheet} (e : s ≡ fresh pg) (c : Call) where
  pub sheet_reads : {r : Answer} → r ≡ answers (refusal pg c) (fresh (after pg c)) → Reads s c r
  sheet_reads {r} q =
      record {
        no_sheet = λ n. absurd (n (record { on = pg; reached = h; gives = e }));
        on_page = λ qg k d. subst (λ (p : Page). r ≡ answers (refusal p c) (fresh (after p c))) (one_page h k (sym e ∙ d)) q;
      }

  pub refused_reads : {n : ℕ} → refusal pg c ≡ n → (n ≡ 0 → ⊥) → Reads s c (answers n s)
  refused_reads q z =
      sheet_reads (ap₂ answers (sym q) (e ∙ ap fresh (sym (after_refused pg c (λ t. z (sym q ∙ t))))))

  pub accepted_reads : {t : Sheet} → refusal pg c ≡ 0 → fresh (written pg c) ≡ t → Reads s c (answers 0 t)
  accepted_reads q d = sheet_reads (ap₂ answers (sym q) (sym d ∙ ap fresh (sym (after_accepted pg c q))))

-- an opening reads no page
module _ (s : Sheet) (g : Opening) where
  pub refused_open : {n : ℕ} → refusal no_page (open_at g) ≡ n → (n ≡ 0 → ⊥) → answers n s ≡ opened s g
  unfolding opened
  refused_open {n} q z =
      ap₂ (λ (k : ℕ) (b : Bool). answers k (cond b (fresh (page (new_page g))) s)) (sym q) (sym (ne_eqb _ 0 (λ t. z (sym q ∙ t))))

  pub accepted_open : refusal no_page (open_at g) ≡ 0 → answers 0 (fresh (page (new_page g))) ≡ opened s g
  unfolding opened
  accepted_open q = ap₂ (λ (k : ℕ) (b : Bool). answers k (cond b (fresh (page (new_page g))) s)) (sym q) (sym (eq-eqb _ 0 q))
