-- The ways out of asking: refused before the table, refused for want of room, answered with what is kept, and answered with
-- the chain too. Assumes nothing.
use mathlib.Core.Path.{◌≡◌, refl, sym, ap, ap₂, ◌∙◌, subst}
use mathlib.Core.Bool.{Bool, cond}
use mathlib.Core.List.{List, [], ◌++◌}
use Prim.Native.Nat.{ℕ, ◌*◌, ◌≤◌, ◌<◌}
use native.Mathlib.Decide.{ℕ_discrete}
use native.Mathlib.Omega.{arith}
use borrow.Author.Tests.{eq-eqb, ne_eqb}
use lib.ListN.{drop, length, take}
use Rattle.rule.specs.declared.Rule.{Rule}
use Rattle.search.specs.declared.verdict.Kept.{Kept}
use Rattle.search.specs.verdict.Kept.{kept}
use Rattle.chain.specs.declared.Link.{Link}
use Rattle.chain.specs.Findings.{findings, chain_for}
use Rattle.chain.specs.Links.{chain_room, numbers_of, links}
use Rattle.sheet.specs.declared.slate_ask.Reply.{Reply}
use Rattle.sheet.specs.declared.Sheet.{Sheet}
use Rattle.page.specs.Calls.{ask, refusal, rules_of}
use Rattle.page.specs.Page.{Page, entries_of, no_page, rules_on, width_of}
use Rattle.sheet.specs.Record.{fresh}
use Rattle.sheet.specs.route.Stands.{Standing, Stands, blank_sheet, no_sheet, on_page}
use Rattle.sheet.specs.Statements.{Asked, chain_on, overlaid, refuses, replies, reply}
use Rattle.page.specs.Reached.{Reached, start}
use Rattle.sheet.proofs.OnePage.{one_page}
use Rattle.page.proofs.Refusals.{ask_fits, ask_short, blank_ask}
use Rattle.sheet.proofs.Stands.{known}

-- what holds of the one page is all that is asked
pub asked_on : (pg : Page) → Reached pg → {s : Sheet} → s ≡ fresh pg → {b b' : List ℕ} {r : Reply} → r ≡ reply pg (length b)
    → b' ≡ overlaid (chain_on pg (length b)) b → Asked s b b' r
asked_on pg h {s} e {b} {b'} {r} p q =
    record {
      no_sheet = λ n. absurd (n (record { on = pg; reached = h; gives = e }));
      on_page = λ qg k d.
          subst (λ (t : Page). (r ≡ reply t (length b)) × (b' ≡ overlaid (chain_on t (length b)) b)) (one_page h k (sym e ∙ d)) (p, q);
    }

module _ (pg : Page) (m : ℕ) where
  abbrev pub said : List Link
  said = (findings (width_of pg) (rules_of pg)).chain

  -- what is answered and laid, by the test whether the call is accepted
  no_chain : (refusal pg (ask m) ≡ 0 → ⊥) → chain_on pg m ≡ []
  unfolding chain_on
  no_chain z = ap (λ (b : Bool). cond b said []) (ne_eqb _ 0 z)

  pub the_chain : refusal pg (ask m) ≡ 0 → chain_on pg m ≡ said
  unfolding chain_on
  the_chain q = ap (λ (b : Bool). cond b said []) (eq-eqb _ 0 q)

  abbrev choice : Bool → ℕ → List Link → Reply
  choice b k ls = cond b (replies 0 (findings (width_of pg) (rules_of pg)).kept (length ls)) (refuses k)

  refused_reply : {n : ℕ} → refusal pg (ask m) ≡ n → (n ≡ 0 → ⊥) → refuses n ≡ reply pg m
  unfolding reply
  refused_reply {n} q z =
      sym (ap₂ (λ (b : Bool) (k : ℕ). choice b k (chain_on pg m)) (ne_eqb (refusal pg (ask m)) 0 (λ t. z (sym q ∙ t))) q)

  pub accepted_reply : refusal pg (ask m) ≡ 0 → replies 0 (findings (width_of pg) (rules_of pg)).kept (length said) ≡ reply pg m
  unfolding reply
  accepted_reply q = sym (ap₂ (λ (b : Bool) (ls : List Link). choice b (refusal pg (ask m)) ls) (eq-eqb _ 0 q) (the_chain q))

  -- asking answers the number of the table
  pub reply-number : (reply pg m).number ≡ refusal pg (ask m)
  reply-number = go (ℕ_discrete (refusal pg (ask m)) 0)
    where
      go : Dec (refusal pg (ask m) ≡ 0) → (reply pg m).number ≡ refusal pg (ask m)
      go (yes q) = sym (ap Reply.number (accepted_reply q)) ∙ sym q
      go (no z) = sym (ap Reply.number (refused_reply refl z))

overlaid_none : (b : List ℕ) → b ≡ overlaid [] b
unfolding numbers_of
overlaid_none b = refl

refused_on : (pg : Page) → Reached pg → {s : Sheet} → s ≡ fresh pg → {n : ℕ} (b : List ℕ) → refusal pg (ask (length b)) ≡ n → (n ≡ 0 → ⊥)
    → Asked s b b (refuses n)
refused_on pg h e b q z =
    asked_on pg h e (refused_reply pg (length b) q z)
    (overlaid_none b ∙ ap (λ (ls : List Link). overlaid ls b) (sym (no_chain pg (length b) (λ t. z (sym q ∙ t)))))

-- refused before the table
pub refused_asking : {s : Sheet} {n : ℕ} → Stands s n → (n ≡ 0 → ⊥) → (b : List ℕ) → Asked s b b (refuses n)
refused_asking (no_sheet i) z b =
    record { no_sheet = λ n. (refl, refl); on_page = λ pg h e. absurd (i (record { on = pg; reached = h; gives = e })) }
refused_asking (blank_sheet e) z b = refused_on no_page start e b (blank_ask (length b)) z
refused_asking (on_page p) z b = absurd (z refl)

-- what is kept is what the rules on the page give
kept_on : {s : Sheet} → Standing s → s.kept ≡ kept s.width (take s.count s.rules)
unfolding fresh
kept_on p =
    let g = known p in
    ap (λ (t : Sheet). t.kept) p.gives ∙ sym (ap₂ kept g.width g.rules)

module _ {s : Sheet} (p : Standing s) (b : List ℕ) where
  -- refused for want of room
  pub short_asking : length b < chain_room s.count → Asked s b b (refuses 9)
  short_asking h =
      let g = known p in
      refused_on _ p.reached p.gives b (ask_short _ (length b) (subst (λ (n : ℕ). length b < chain_room n) g.count h)) (λ e. omega arith)

  -- answered, where the chain that is said is ls
  answered : {b' : List ℕ} → chain_room s.count ≤ length b → (ls : List Link)
      → chain_for s.width (take s.count s.rules) s.kept ≡ ls → b' ≡ overlaid ls b → Asked s b b' (replies 0 s.kept (length ls))
  unfolding findings width_of rules_of entries_of
  answered h ls q d =
      let g = known p in
      let w : ℕ = p.on.opening.width in
      let rs : List Rule = rules_on p.on.entries in
      let k : s.kept ≡ kept w rs = kept_on p ∙ ap₂ kept g.width g.rules in
      let f = ask_fits _ (length b) (subst (λ (n : ℕ). chain_room n ≤ length b) g.count h) in
      let c : ls ≡ chain_for w rs (kept w rs) =
      sym q ∙ (λ i. chain_for (g.width i) (g.rules i) (k i)) in
      asked_on _ p.reached p.gives
      (ap₂ (λ (u : Kept) (v : List Link). replies 0 u (length v)) k c ∙ accepted_reply _ (length b) f)
      (d ∙ ap (λ (v : List Link). overlaid v b) (c ∙ sym (the_chain _ (length b) f)))

  pub kept_asking : chain_room s.count ≤ length b → (s.kept.verdict ≡ 0 → ⊥) → Asked s b b (replies 0 s.kept 0)
  unfolding chain_for
  kept_asking h z = answered h [] (rw (ne_eqb s.kept.verdict 0 z, chain_for)) (overlaid_none b)

  pub chain_asking : {b' : List ℕ} {n : ℕ} → chain_room s.count ≤ length b → s.kept.verdict ≡ 0
      → n ≡ length (links s.width (take s.count s.rules))
      → b' ≡ numbers_of (links s.width (take s.count s.rules)) ++ drop (3 * n) b → Asked s b b' (replies 0 s.kept n)
  unfolding chain_for
  chain_asking {b'} {n} h z q d =
      let ls : List Link = links s.width (take s.count s.rules) in
      subst (λ (k : ℕ). Asked s b b' (replies 0 s.kept k)) (sym q)
      (answered h ls (rw (eq-eqb s.kept.verdict 0 z, chain_for)) (d ∙ ap (λ (k : ℕ). numbers_of ls ++ drop (3 * k) b) q))
