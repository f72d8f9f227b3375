-- Going forward right after going back gives the very sheet from before, and so do n steps of each, where so many marks are in force: the
-- clerk's page is the same again, and the sheet is what the page gives. Assumes nothing.
use mathlib.Core.Path.{◌≡◌, refl, sym, ap, ap₂, ◌∙◌}
use mathlib.Core.List.{◌++◌}
use Prim.Native.Nat.{ℕ, ◌≤◌}
use native.Mathlib.Omega.{arith}
use lib.ListN.{length, replicate}
use Rattle.sheet.specs.declared.Answer.{Answer}
use Rattle.sheet.specs.declared.Sheet.{Sheet}
use Rattle.page.specs.Calls.{after, back, changed, forward, marks_of, refusal, written}
use Rattle.page.specs.Page.{Page, entries_of, laid_aside, marks_on, no_page, page}
use Rattle.page.specs.Reached.{Reached}
use Rattle.sheet.specs.Record.{fresh}
use Rattle.sheet.specs.Statements.{AllAccepted, IsSheet, Outcome, Sequence, answers}
use Rattle.page.proofs.Refusals.{after_accepted, blank_back, forward_fits}
use Rattle.page.proofs.Replayed.{back_and_forward, forward_again}
use Rattle.sheet.proofs.Tested.{sheet_dec}
use Rattle.sheet.proofs.demands.Demand.{after_reached, outcome_on, sequence_accepted, sequence_clerk}

-- whatever record a step back was accepted on
pub forward_after_back : {s : Sheet} (r r' : Answer) → Outcome s back r → r.number ≡ 0 → Outcome r.sheet forward r' → r' ≡ answers 0 s
unfolding Outcome written changed laid_aside
forward_after_back {s} r r' a z b = go (sheet_dec s)
  where
    on_page : (pg : Page) → Reached pg → s ≡ fresh pg → r' ≡ answers 0 s
    on_page no_page h e = absurd (omega (arith, ap Answer.number (a.on_page no_page h e), blank_back))
    on_page (page o) h e =
        let q = a.on_page (page o) h e in
        let accepted : refusal (page o) back ≡ 0 = sym (ap Answer.number q) ∙ z in
        let aside : after (page o) back ≡ page (laid_aside o) = after_accepted (page o) back accepted in
        let fits = forward_fits (laid_aside o) (omega arith) in
        outcome_on (after (page o) back) (ap Answer.sheet q) (after_reached h back) forward b
        ∙ ap (λ (pg : Page). answers (refusal pg forward) (fresh (after pg forward))) aside
        ∙ ap₂ answers fits (ap fresh (after_accepted (page (laid_aside o)) forward fits ∙ ap page (forward_again o)) ∙ sym e)

    go : Dec (IsSheet s) → r' ≡ answers 0 s
    go (yes h) = on_page h.on h.reached h.gives
    go (no n) = absurd (omega (arith, ap Answer.number (a.no_sheet n)))

marked_on : (pg : Page) → (fresh pg).marked ≡ length (marks_of pg)
unfolding fresh marks_of entries_of marks_on
marked_on no_page = refl
marked_on (page o) = refl

pub back_and_forward_again : (n : ℕ) {s t : Sheet} → IsSheet s → n ≤ s.marked → (q : Sequence s (replicate n back ++ replicate n forward) t)
    → (t ≡ s) × AllAccepted q
back_and_forward_again n i few q =
    let l = back_and_forward n i.on (omega (arith, ap Sheet.marked i.gives, marked_on i.on)) in (
      sequence_clerk i.reached i.gives q ∙ ap fresh l.comes_to ∙ sym i.gives,
      sequence_accepted i.reached i.gives l.accepted q,
    )
