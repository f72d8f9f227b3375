-- "Every chain that we write is accepted": a chain covers every word with links that show their words, and the buffer holds its links
-- three numbers each. Assumes nothing.
use mathlib.Core.Path.{◌≡◌, sym, ap, ap₂, ◌∙◌}
use mathlib.Core.Bool.{true, not, ◌&&◌}
use mathlib.Core.List.{List}
use Prim.Native.Nat.{ℕ, ◌*◌}
use native.Mathlib.Omega.{arith}
use borrow.Author.Tests.{eq-eqb, ne_eqb}
use lib.ListN.{length, take}
use lib.Seq.{take_at}
use Rattle.rule.specs.declared.Rule.{Rule}
use Rattle.search.specs.verdict.Kept.{kept}
use Rattle.chain.specs.declared.Link.{Link}
use Rattle.chain.specs.Chain.{IsChain}
use Rattle.chain.specs.Findings.{chain_for, findings}
use Rattle.chain.specs.Links.{links, numbers_of}
use Rattle.chain.proofs.Cover.{chain_covers}
use Rattle.chain.proofs.Steps.{chain_is}
use Rattle.chain.proofs.Walk.{none_fits, numbers_length}
use Rattle.sheet.specs.declared.slate_ask.Reply.{Reply}
use Rattle.sheet.specs.declared.Sheet.{Sheet}
use Rattle.page.specs.Calls.{ask, refusal, rules_of}
use Rattle.page.specs.Page.{OpenPage, Page, entries_of, no_page, page, rules_on, width_of}
use Rattle.sheet.specs.Record.{fresh}
use Rattle.sheet.specs.Statements.{Asked, IsSheet, chain_on, overlaid, reply}
use Rattle.page.specs.Reached.{Reached}
use Rattle.sheet.proofs.Fresh.{given}
use Rattle.page.proofs.Lawful.{reached_lawful, reached_page}
use Rattle.page.proofs.Refusals.{blank_ask}
use Rattle.sheet.proofs.Tested.{sheet_dec, sheet_passes}
use Rattle.sheet.proofs.WaysOfAsking.{accepted_reply, reply-number, the_chain}
use Rattle.checker.specs.covering.Check.{shown, shown_by}
use Rattle.checker.specs.Check.{accepts}
use Rattle.checker.proofs.covering.Covering.{covers_shown}
use Rattle.checker.proofs.Exactly.{in_threes, links_of}

-- the numbers of any chain by 01's definition
pub chain_shown : (w : ℕ) (rs : List Rule) (ls : List Link) → IsChain w rs 0 ls → shown_by w rs (numbers_of ls) ≡ true
unfolding shown_by
chain_shown w rs ls c =
    ap₂ ◌&&◌ (eq-eqb _ 0 (in_threes ls)) (ap (shown w rs) (links_of ls) ∙ covers_shown w rs ls (chain_covers w rs c))

-- on a sheet that a page gives
shown_accepted : {s : Sheet} (o : OpenPage) → Reached (page o) → s ≡ fresh (page o) → (ns : List ℕ)
    → shown_by o.opening.width (rules_on o.entries) ns ≡ true → accepts s ns ≡ true
unfolding accepts
shown_accepted {s} o h e ns d =
    let g = given o e (reached_page h) in
    let w = (reached_lawful h).low in
    let open_sheet : s.width ≡ 0 → ⊥ = λ z. omega (arith, g.width) in
    ap₂ ◌&&◌ (sheet_passes s (record { on = page o; reached = h; gives = e }))
    (ap₂ ◌&&◌ (ap not (ne_eqb s.width 0 open_sheet)) (ap₂ (λ (v : ℕ) (us : List Rule). shown_by v us ns) g.width g.rules ∙ d))

on_page : {s : Sheet} (b : List ℕ) {b' : List ℕ} {r : Reply} (pg : Page) → Reached pg → s ≡ fresh pg → r ≡ reply pg (length b) → b' ≡ overlaid (chain_on pg (length b)) b
    → r.number ≡ 0 → r.kept.verdict ≡ 0 → accepts s (take (3 * r.links) b') ≡ true
unfolding findings width_of rules_of entries_of chain_for
on_page b no_page h e p q z v = absurd (omega (arith, blank_ask (length b), ap (λ (t : Reply). t.number) p, reply-number no_page (length b)))
on_page {s} b {b'} {r} (page o) h e p q z v =
    let w = o.opening.width in
    let rs = rules_on o.entries in
    let f : refusal (page o) (ask (length b)) ≡ 0 = sym (reply-number (page o) (length b)) ∙ sym (ap (λ (t : Reply). t.number) p) ∙ z in
    let said = p ∙ sym (accepted_reply (page o) (length b) f) in
    let none : (kept w rs).verdict ≡ 0 = sym (ap (λ (t : Reply). t.kept.verdict) said) ∙ v in
    let written : chain_for w rs (kept w rs) ≡ links w rs = rw (eq-eqb (kept w rs).verdict 0 none, chain_for) in
    let count : r.links ≡ length (links w rs) = ap (λ (t : Reply). t.links) said ∙ ap length written in
    let laid : b' ≡ overlaid (links w rs) b = q ∙ ap (λ (ls : List Link). overlaid ls b) (the_chain (page o) (length b) f ∙ written) in
    let numbers : take (3 * r.links) b' ≡ numbers_of (links w rs) =
    ap₂ (λ (k : ℕ) (l : List ℕ). take (3 * k) l) count laid ∙ take_at (numbers_of (links w rs)) _ _ (numbers_length (links w rs)) in
    rw numbers (shown_accepted o h e (numbers_of (links w rs)) (chain_shown w rs (links w rs) (chain_is w rs (none_fits w rs none))))

-- what asking writes for "none", as the buffer holds it
pub written_accepted : {s : Sheet} {b b' : List ℕ} {r : Reply} → Asked s b b' r → r.number ≡ 0 → r.kept.verdict ≡ 0
    → accepts s (take (3 * r.links) b') ≡ true
written_accepted {s} {b} {b'} {r} a z v = go (sheet_dec s)
  where
    go : Dec (IsSheet s) → accepts s (take (3 * r.links) b') ≡ true
    go (yes i) = let q = a.on_page i.on i.reached i.gives in on_page b i.on i.reached i.gives q.0 q.1 z v
    go (no n) = absurd (omega (arith, z, ap (λ (t : Reply). t.number) (a.no_sheet n).0))
