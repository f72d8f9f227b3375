-- Demand 3: any outcome of a call that satisfies its statement has the record of the clerk's page after the call, and that
-- page is again one of accepted calls; so by induction any outcome of calls has the record of the clerk's page after them, and
-- so has any outcome of that page and its pile replayed. Demand 2 of a page's record is that of what is kept. Assumes nothing.
use mathlib.Core.Path.{◌≡◌, refl, sym, ap, ◌∙◌, subst}
use mathlib.Core.Bool.{true}
use mathlib.Core.Logic.{◌⊎◌, inl, inr}
use mathlib.Core.List.{List, [], ◌∷◌}
use Prim.Native.Nat.{ℕ}
use native.Mathlib.Decide.{ℕ_discrete}
use borrow.Author.Tests.{eq-eqb, eqb-true, ne_eqb}
use lib.Dec.{eqb}
use lib.ListN.{length, length-replicate, replicate}
use Rattle.word.proofs.Tests.{both_pass}
use Rattle.search.specs.verdict.Demand.{Right}
use Rattle.search.proofs.verdict.Right.{kept_right}
use Rattle.sheet.specs.declared.Answer.{Answer}
use Rattle.sheet.specs.declared.slate_ask.Reply.{Reply}
use Rattle.sheet.specs.declared.Sheet.{Sheet}
use Rattle.page.specs.Calls.{Call, accepts, add, after, ask, back, clerk, forward, grounds, mark, open_at, refusal, replay, set_gate, written}
use Rattle.sheet.specs.demands.Demands.{FreshlyGiven}
use Rattle.page.specs.declared.Opening.{Opening}
use Rattle.page.specs.Page.{OpenPage, Page, no_page, page, rules_on}
use Rattle.sheet.specs.Record.{blank, fresh}
use Rattle.sheet.specs.Statements.{AllAccepted, IsSheet, Outcome, Sequence, answers, asks, calls, done, opened}
use Rattle.page.specs.Reached.{Reached, start}
use Rattle.sheet.proofs.WaysOfAsking.{accepted_reply, asked_on}
use Rattle.page.proofs.Lawful.{reached_page}
use Rattle.page.proofs.Refusals.{after-ask}
use Rattle.page.proofs.Replayed.{clerk_reached, lawful_replays}
pub use Rattle.page.proofs.Replayed.{after_reached}
use Rattle.sheet.proofs.Ways.{sheet_reads}

pub kept_is : (o : OpenPage) → Right o.opening.width (rules_on o.entries) (fresh (page o)).kept
unfolding fresh
kept_is o = kept_right o.opening.width (rules_on o.entries)

-- ---- one call

module _ {s : Sheet} (pg : Page) (e : s ≡ fresh pg) where
  opened_on : (g : Opening) → opened s g ≡ answers (refusal pg (open_at g)) (fresh (after pg (open_at g)))
  unfolding opened after refusal grounds written
  opened_on g = go (ℕ_discrete (refusal pg (open_at g)) 0)
    where
      go : Dec (refusal pg (open_at g) ≡ 0) → opened s g ≡ answers (refusal pg (open_at g)) (fresh (after pg (open_at g)))
      go (yes q) = rw (eq-eqb (refusal pg (open_at g)) 0 q, after)
      go (no n) = rw (ne_eqb (refusal pg (open_at g)) 0 n, after) (ap (answers _) e)

  -- on the sheet of a page, each call answers the page's number and the sheet of the page after it
  pub outcome_on : Reached pg → (c : Call) {r : Answer} → Outcome s c r → r ≡ answers (refusal pg c) (fresh (after pg c))
  unfolding Outcome
  outcome_on h (open_at g) p = p ∙ opened_on g
  outcome_on h (add d u) p = p.on_page pg h e
  outcome_on h mark p = p.on_page pg h e
  outcome_on h back p = p.on_page pg h e
  outcome_on h forward p = p.on_page pg h e
  outcome_on h (ask m) p = absurd p
  outcome_on h (set_gate g) p = p.on_page pg h e

-- ---- calls one after another

pub sequence_clerk : {s t : Sheet} {cs : List Call} {pg : Page} → Reached pg → s ≡ fresh pg → Sequence s cs t → t ≡ fresh (clerk pg cs)
unfolding clerk
sequence_clerk h e done = e
sequence_clerk {pg} h e (calls c r p rest) = sequence_clerk (after_reached h c) (ap Answer.sheet (outcome_on pg e h c p)) rest
sequence_clerk {pg} h e (asks b b' r p rest) = rw (after-ask pg (length b)) (sequence_clerk h e rest)

-- what comes of calls is what a page gives
pub as_fresh : {s : Sheet} {cs : List Call} → Sequence blank cs s → s ≡ fresh (clerk no_page cs)
unfolding fresh
as_fresh q = sequence_clerk start refl q

pub sequence_accepted : {s t : Sheet} {cs : List Call} {pg : Page} → Reached pg → s ≡ fresh pg → accepts pg cs ≡ true → (q : Sequence s cs t) → AllAccepted q
unfolding AllAccepted accepts
sequence_accepted h e a done = tt
sequence_accepted {pg = pg} h e a (calls c r p rest) =
    let t = both_pass (eqb (refusal pg c) 0) _ a in
    let q = outcome_on pg e h c p in
    (ap Answer.number q ∙ eqb-true _ 0 t.0, sequence_accepted (after_reached h c) (ap Answer.sheet q) t.1 rest)
sequence_accepted {pg = pg} h e a (asks b b' r p rest) =
    let t = both_pass (eqb (refusal pg (ask (length b))) 0) _ a in
    let q = accepted_reply pg (length b) (eqb-true _ 0 t.0) in
    (ap Reply.number ((p.on_page pg h e).0 ∙ sym q), sequence_accepted h e (rw (after-ask pg (length b)) at t.1) rest)

-- ---- each list of calls has an outcome

module _ {s : Sheet} (pg : Page) (h : Reached pg) (e : s ≡ fresh pg) where
  some_outcome : (c : Call) → ((r : Answer) × Outcome s c r) ⊎ ((m : ℕ) × (c ≡ ask m))
  unfolding Outcome
  some_outcome (open_at g) = inl (opened s g, refl)
  some_outcome (add d u) = inl (_, sheet_reads pg h e (add d u) refl)
  some_outcome mark = inl (_, sheet_reads pg h e mark refl)
  some_outcome back = inl (_, sheet_reads pg h e back refl)
  some_outcome forward = inl (_, sheet_reads pg h e forward refl)
  some_outcome (ask m) = inr (m, refl)
  some_outcome (set_gate g) = inl (_, sheet_reads pg h e (set_gate g) refl)

some_sequence : (s : Sheet) (pg : Page) → Reached pg → s ≡ fresh pg → (cs : List Call) → (t : Sheet) × Sequence s cs t
some_sequence s pg h e [] = (s, done)
some_sequence s pg h e (c ∷ cs) = go (some_outcome pg h e c) (λ u qg k d. some_sequence u qg k d cs)
  where
    go : ((r : Answer) × Outcome s c r) ⊎ ((m : ℕ) × (c ≡ ask m)) → ((u : Sheet) (qg : Page) → Reached qg → u ≡ fresh qg → (t : Sheet) × Sequence u cs t)
        → (t : Sheet) × Sequence s (c ∷ cs) t
    go (inl p) later =
        let rest = later p.0.sheet (after pg c) (after_reached h c) (ap Answer.sheet (outcome_on pg e h c p.1)) in
        (rest.0, calls c p.0 p.1 rest.1)
    go (inr q) later =
        let rest = later s pg h e in
        let b : List ℕ = replicate q.0 0 in
        let same : ask (length b) ≡ c = ap ask (length-replicate q.0 0) ∙ sym q.1 in
        (rest.0, subst (λ (d : Call). Sequence s (d ∷ cs) rest.0) same (asks b _ _ (asked_on pg h e refl refl) rest.1))

-- ---- the demand

-- each sheet is one freshly given so, and nothing else is: "that is also what refusal 17 tests"
pub sheet_given : {s : Sheet} (h : IsSheet s) → FreshlyGiven s h.on
unfolding fresh
sheet_given h =
    let pg : Page = h.on in
    let l = lawful_replays pg (reached_page h.reached) in
    record {
      given = some_sequence blank no_page start refl (replay pg);
      equals = λ p. h.gives ∙ sym (ap fresh l.comes_to) ∙ sym (as_fresh p);
      accepted = λ p. sequence_accepted start refl l.accepted p;
    }

pub given_sheet : {s : Sheet} {pg : Page} → FreshlyGiven s pg → IsSheet s
given_sheet {pg = pg} g =
    record { on = clerk no_page (replay pg); reached = clerk_reached start (replay pg); gives = g.equals g.given.1 ∙ as_fresh g.given.1 }

pub demand_3 : {s : Sheet} {cs : List Call} → Sequence blank cs s → FreshlyGiven s (clerk no_page cs)
demand_3 {cs = cs} q = sheet_given (record { on = clerk no_page cs; reached = clerk_reached start cs; gives = as_fresh q })
