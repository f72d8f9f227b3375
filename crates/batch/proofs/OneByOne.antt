-- The calls one by one come to what the batch call promises, by induction on the rules: each answer has the record of the
-- clerk's page after its call. Assumes nothing.
use mathlib.Core.Path.{◌≡◌, refl, sym, ap, ◌∙◌}
use mathlib.Core.List.{List}
use Prim.Native.Nat.{ℕ}
use lib.ListN.{length}
use Rattle.word.specs.declared.Edition.{Edition}
use Rattle.rule.specs.declared.Rule.{Rule}
use Rattle.chain.specs.Links.{numbers_of}
use Rattle.sheet.specs.declared.Answer.{Answer}
use Rattle.sheet.specs.declared.slate_ask.Reply.{Reply}
use Rattle.sheet.specs.declared.Sheet.{Sheet}
use Rattle.page.specs.Calls.{add, after, open_at}
use Rattle.page.specs.declared.Opening.{Opening}
use Rattle.page.specs.Page.{Page, no_page}
use Rattle.sheet.specs.Record.{fresh}
use Rattle.page.specs.Reached.{Reached, start}
use Rattle.sheet.specs.Statements.{refuses}
use Rattle.sheet.proofs.demands.Demand.{after_reached, outcome_on}
use Rattle.batch.specs.declared.course.Batch.{Batch}
use Rattle.batch.specs.course.Batch.{Batched, Gives, added, batches}
use Rattle.batch.specs.OneByOne.{Adding, OneByOne, adds, asks, opens, refused_opening, refused_rule}
use Rattle.batch.proofs.course.Added.{add_goes, add-stops, open_goes, open_stops}

adding_gives : {d : Edition} {b b' : List ℕ} {s : Sheet} {i : ℕ} {us : List Rule} {r : Batch} (pg : Page) → Reached pg → s ≡ fresh pg
    → Adding d b s i us b' r → Gives (added d pg i us (length b)) b b' r
unfolding added numbers_of
adding_gives {d} {b} {i = i} pg h e (asks a) =
    let q = a.on_page pg h e in
    record { answers = ap (λ (r : Reply). batches r i) q.0; writes = q.1 }
adding_gives {d} {b} {i = i} pg h e (refused_rule {u = u} {us = us} a p n) =
    let q = ap (λ (r : Answer). r.number) (outcome_on pg e h (add d u) p) in
    rw (add-stops d pg i u us (length b) (λ z. n (q ∙ z)))
    (record { answers = ap (λ (k : ℕ). batches (refuses k) i) q; writes = refl })
adding_gives {d} {b} {i = i} pg h e (adds {u = u} {us = us} a p z k) =
    let q = outcome_on pg e h (add d u) p in
    rw (add_goes d pg i u us (length b) (sym (ap (λ (r : Answer). r.number) q) ∙ z))
    (adding_gives (after pg (add d u)) (after_reached h (add d u)) (ap (λ (r : Answer). r.sheet) q) k)

pub one_by_one : {g : Opening} {us : List Rule} {b b' : List ℕ} {r : Batch} → OneByOne g us b b' r → Batched g us b b' r
unfolding fresh numbers_of
one_by_one {g} {us} {b} (refused_opening a p n) =
    let q = ap (λ (r : Answer). r.number) (outcome_on no_page refl start (open_at g) p) in
    rw (open_stops g us (length b) (λ z. n (q ∙ z)))
    (record { answers = ap (λ (k : ℕ). batches (refuses k) (length us)) q; writes = refl })
one_by_one {g} {us} {b} (opens a p z k) =
    let q = outcome_on no_page refl start (open_at g) p in
    rw (open_goes g us (length b) (sym (ap (λ (r : Answer). r.number) q) ∙ z))
    (adding_gives (after no_page (open_at g)) (after_reached start (open_at g)) (ap (λ (r : Answer). r.sheet) q) k)
