-- No second outcome satisfies a call's statement: a record is a sheet or it is not, and in each case the statement says
-- what the outcome is. Read so, it says too that a refused call leaves the sheet, and a refused asking the buffer. Assumes
-- nothing.
use mathlib.Core.Path.{◌≡◌, sym, ap, ◌∙◌}
use mathlib.Core.List.{List}
use Prim.Native.Nat.{ℕ}
use native.Mathlib.Decide.{ℕ_discrete}
use borrow.Author.Tests.{eq-eqb, ne_eqb}
use lib.ListN.{length}
use Rattle.chain.specs.Links.{numbers_of}
use Rattle.sheet.specs.declared.Answer.{Answer}
use Rattle.sheet.specs.declared.slate_ask.Reply.{Reply}
use Rattle.sheet.specs.declared.Sheet.{Sheet}
use Rattle.page.specs.Calls.{Call, add, ask, back, forward, mark, open_at, refusal, set_gate}
use Rattle.page.specs.declared.Opening.{Opening}
use Rattle.page.specs.Page.{Page, no_page}
use Rattle.sheet.specs.Record.{fresh}
use Rattle.sheet.specs.Statements.{Asked, IsSheet, Outcome, Reads, chain_on, opened, overlaid, reply}
use Rattle.page.proofs.Refusals.{after_refused}
use Rattle.sheet.proofs.Tested.{same_outcome, sheet_dec, sheet_or_not}

reads_unique : {s : Sheet} {c : Call} {r r' : Answer} → Reads s c r → Reads s c r' → r ≡ r'
reads_unique {s} a a' = sheet_or_not s (λ pg h e. a.on_page pg h e ∙ sym (a'.on_page pg h e)) (λ n. a.no_sheet n ∙ sym (a'.no_sheet n))

pub outcome_unique : (s : Sheet) (c : Call) {r r' : Answer} → Outcome s c r → Outcome s c r' → r ≡ r'
unfolding Outcome
outcome_unique s (open_at g) a a' = a ∙ sym a'
outcome_unique s (add d u) a a' = reads_unique a a'
outcome_unique s mark a a' = reads_unique a a'
outcome_unique s back a a' = reads_unique a a'
outcome_unique s forward a a' = reads_unique a a'
outcome_unique s (ask m) a a' = absurd a
outcome_unique s (set_gate g) a a' = reads_unique a a'

pub asked_unique : {s : Sheet} {b b₁ b₂ : List ℕ} {r₁ r₂ : Reply} → Asked s b b₁ r₁ → Asked s b b₂ r₂
    → (r₁ ≡ r₂) × (b₁ ≡ b₂)
asked_unique {s} a a' =
    sheet_or_not s (λ pg h e. same_outcome (a.on_page pg h e) (a'.on_page pg h e)) (λ n. same_outcome (a.no_sheet n) (a'.no_sheet n))

opened_leaves : (s : Sheet) (g : Opening) → ((opened s g).number ≡ 0 → ⊥) → (opened s g).sheet ≡ s
unfolding opened
opened_leaves s g n = rw (ne_eqb (refusal no_page (open_at g)) 0 n)

reads_leaves : {s : Sheet} {c : Call} {r : Answer} → Reads s c r → (r.number ≡ 0 → ⊥) → r.sheet ≡ s
reads_leaves {s} {c} {r} a k = go (sheet_dec s)
  where
    go : Dec (IsSheet s) → r.sheet ≡ s
    go (yes h) =
        let e = a.on_page h.on h.reached h.gives in
        ap (λ (t : Answer). t.sheet) e
        ∙ ap fresh (after_refused h.on c (λ q. k (ap (λ (t : Answer). t.number) e ∙ q)))
        ∙ sym h.gives
    go (no n) = ap (λ (t : Answer). t.sheet) (a.no_sheet n)

pub outcome_leaves : {s : Sheet} (c : Call) (r : Answer) → Outcome s c r → (r.number ≡ 0 → ⊥) → r.sheet ≡ s
unfolding Outcome
outcome_leaves {s} (open_at g) r a k =
    ap (λ (t : Answer). t.sheet) a ∙ opened_leaves s g (λ q. k (ap (λ (t : Answer). t.number) a ∙ q))
outcome_leaves (add d u) r a k = reads_leaves a k
outcome_leaves mark r a k = reads_leaves a k
outcome_leaves back r a k = reads_leaves a k
outcome_leaves forward r a k = reads_leaves a k
outcome_leaves (ask m) r a k = absurd a
outcome_leaves (set_gate g) r a k = reads_leaves a k

-- no link is written where asking is refused
reply_leaves : (pg : Page) (b : List ℕ) → ((reply pg (length b)).number ≡ 0 → ⊥) → overlaid (chain_on pg (length b)) b ≡ b
unfolding reply chain_on numbers_of
reply_leaves pg b n = go (ℕ_discrete (refusal pg (ask (length b))) 0)
  where
    go : Dec (refusal pg (ask (length b)) ≡ 0) → overlaid (chain_on pg (length b)) b ≡ b
    go (yes e) = absurd (n (rw (eq-eqb (refusal pg (ask (length b))) 0 e)))
    go (no k) = rw (ne_eqb (refusal pg (ask (length b))) 0 k)

pub asked_leaves : {s : Sheet} {b b' : List ℕ} {r : Reply} → Asked s b b' r → (r.number ≡ 0 → ⊥) → b' ≡ b
asked_leaves {s} {b} {b'} {r} a k = go (sheet_dec s)
  where
    go : Dec (IsSheet s) → b' ≡ b
    go (yes h) =
        let e = a.on_page h.on h.reached h.gives in
        e.1 ∙ reply_leaves h.on b (λ q. k (ap (λ (t : Reply). t.number) e.0 ∙ q))
    go (no n) = (a.no_sheet n).1
