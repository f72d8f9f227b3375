-- Demand 2 of asking: with room enough it is accepted, and answers what is kept of the rules in force, which is right; for
-- "none" no word fits, so that the links are the chain. Assumes nothing.
use mathlib.Core.Path.{◌≡◌, refl, sym, ap, ◌∙◌}
use mathlib.Core.List.{List}
use Prim.Native.Nat.{ℕ, ◌≤◌}
use borrow.Author.Tests.{eq-eqb, ne_eqb}
use lib.ListN.{length}
use Rattle.rule.specs.declared.Rule.{Rule}
use Rattle.search.specs.verdict.Kept.{kept}
use Rattle.search.proofs.verdict.Right.{kept_right}
use Rattle.chain.specs.declared.Link.{Link}
use Rattle.chain.specs.Findings.{chain_for, findings}
use Rattle.chain.specs.Links.{chain_room, numbers_of}
use Rattle.chain.proofs.Steps.{chain_is}
use Rattle.chain.proofs.Walk.{none_fits}
use Rattle.sheet.specs.declared.slate_ask.Reply.{Reply}
use Rattle.sheet.specs.declared.Sheet.{Sheet}
use Rattle.page.specs.Calls.{rules_of}
use Rattle.sheet.specs.demands.Demands.{AskedRight}
use Rattle.page.specs.Page.{OpenPage, entries_of, page, rules_on, width_of}
use Rattle.sheet.specs.Record.{fresh}
use Rattle.sheet.specs.Statements.{Asked, overlaid, replies}
use Rattle.page.specs.Reached.{Reached}
use Rattle.sheet.proofs.WaysOfAsking.{accepted_reply, the_chain}
use Rattle.page.proofs.Refusals.{ask_fits}

module _ (w : ℕ) (rs : List Rule) where
  -- what is said of the rules is right, whatever buffer it is laid in
  said_right : (b : List ℕ) → AskedRight w rs b (overlaid (chain_for w rs (kept w rs)) b) (replies 0 (kept w rs) (length (chain_for w rs (kept w rs))))
  unfolding chain_for numbers_of
  said_right b =
      record {
        accepted = refl;
        right = kept_right w rs;
        none = λ z. record {
          chain = chain_for w rs (kept w rs);
          is_chain = rw (eq-eqb (kept w rs).verdict 0 z, chain_for) (chain_is w rs (none_fits w rs z));
          counted = refl;
          laid = refl;
        };
        one_or_many = λ z. (rw (ne_eqb (kept w rs).verdict 0 z, chain_for), rw (ne_eqb (kept w rs).verdict 0 z, chain_for));
      }

pub demand_2 : (o : OpenPage) → Reached (page o) → {s : Sheet} → s ≡ fresh (page o) → {b b' : List ℕ} {r : Reply} → Asked s b b' r
    → chain_room (length (rules_on o.entries)) ≤ length b → AskedRight o.opening.width (rules_on o.entries) b b' r
unfolding findings width_of rules_of entries_of
demand_2 o h e {b} {b'} {r} a room =
    let f = ask_fits o (length b) room in
    let q = a.on_page (page o) h e in
    let reply_is = q.0 ∙ sym (accepted_reply (page o) (length b) f) in
    let buffer_is = q.1 ∙ ap (λ (ls : List Link). overlaid ls b) (the_chain (page o) (length b) f) in
    rw (reply_is, buffer_is) (said_right o.opening.width (rules_on o.entries) b)
