-- Whatever opening, rules and buffer are handed in, the calls one by one come to something: each call has an outcome on the sheet of
-- the clerk's page, which is the sheet of no other page. Assumes nothing.
use mathlib.Core.Path.{◌≡◌, refl, subst}
use mathlib.Core.List.{List, [], ◌∷◌}
use Prim.Native.Nat.{ℕ, ◌+◌}
use native.Mathlib.Decide.{ℕ_discrete}
use lib.ListN.{length}
use Rattle.word.specs.declared.Edition.{Edition}
use Rattle.rule.specs.declared.Rule.{Rule}
use Rattle.sheet.specs.declared.Answer.{Answer}
use Rattle.sheet.specs.declared.Sheet.{Sheet}
use Rattle.page.specs.Calls.{add, after, open_at, refusal, written}
use Rattle.page.specs.declared.Opening.{Opening}
use Rattle.page.specs.Page.{Page, new_page, no_page, page}
use Rattle.page.specs.Reached.{Reached, start, step}
use Rattle.sheet.specs.Record.{blank, fresh}
use Rattle.sheet.specs.Statements.{Asked, Outcome, answers, chain_on, overlaid, reply}
use Rattle.sheet.proofs.OnePage.{one_page}
use Rattle.sheet.proofs.Ways.{accepted_open, refused_open, sheet_reads}
use Rattle.sheet.proofs.demands.Demand.{after_reached}
use Rattle.batch.specs.declared.course.Batch.{Batch}
use Rattle.batch.specs.OneByOne.{Adding, Comes, adds, asks, opens, refused_opening, refused_rule}

record Goes (e : Edition) (b : List ℕ) (s : Sheet) (i : ℕ) (us : List Rule) : Type 0 where
  buffer : List ℕ
  answer : Batch
  calls : Adding e b s i us buffer answer

asking : (pg : Page) → Reached pg → (b : List ℕ) → Asked (fresh pg) b (overlaid (chain_on pg (length b)) b) (reply pg (length b))
asking pg h b =
    let m : ℕ = length b in
    record {
      no_sheet = λ n. absurd (n (record { on = pg; reached = h; gives = refl }));
      on_page = λ qg k e. subst (λ (p : Page). (reply pg m ≡ reply p m) × (overlaid (chain_on pg m) b ≡ overlaid (chain_on p m) b)) (one_page h k e) (refl, refl);
    }

-- what the clerk's page gives after an add
abbrev added_to : Page → Edition → Rule → Answer
added_to pg e u = answers (refusal pg (add e u)) (fresh (after pg (add e u)))

adding : (pg : Page) → Reached pg → (e : Edition) (u : Rule) → Outcome (fresh pg) (add e u) (added_to pg e u)
unfolding Outcome
adding pg h e u = sheet_reads pg h refl (add e u) refl

goes : (e : Edition) (b : List ℕ) (pg : Page) → Reached pg → (i : ℕ) (us : List Rule) → Goes e b (fresh pg) i us
goes e b pg h i [] = record { buffer = _; answer = _; calls = asks (asking pg h b) }
goes e b pg h i (u ∷ us) = go (ℕ_discrete (refusal pg (add e u)) 0) (goes e b (after pg (add e u)) (after_reached h (add e u)) (i + 1) us)
  where
    go : Dec (refusal pg (add e u) ≡ 0) → Goes e b (fresh (after pg (add e u))) (i + 1) us → Goes e b (fresh pg) i (u ∷ us)
    go (yes z) rest = record { buffer = rest.buffer; answer = rest.answer; calls = adds (added_to pg e u) (adding pg h e u) z rest.calls }
    go (no n) _ = record { buffer = b; answer = _; calls = refused_rule (added_to pg e u) (adding pg h e u) n }

pub comes : (g : Opening) (us : List Rule) (b : List ℕ) → Comes g us b
unfolding Outcome written
comes g us b = go (ℕ_discrete (refusal no_page (open_at g)) 0)
  where
    go : Dec (refusal no_page (open_at g) ≡ 0) → Comes g us b
    go (yes z) =
        let rest = goes g.edition b (page (new_page g)) (step start (open_at g) z) 0 us in
        record { buffer = rest.buffer; answer = rest.answer; calls = opens (answers 0 (fresh (page (new_page g)))) (accepted_open blank g z) refl rest.calls }
    go (no n) =
        record { buffer = b; answer = _; calls = refused_opening (answers (refusal no_page (open_at g)) blank) (refused_open blank g refl n) n }
