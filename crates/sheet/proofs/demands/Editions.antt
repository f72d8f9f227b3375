-- "An old answer read as a new one shows the same word": asking goes by the width and the rules in force alone, so that two sheets which
-- agree in these get one verdict, one smallest and largest word, and one chain, whatever their editions. Assumes nothing.
use mathlib.Core.Path.{◌≡◌, refl, sym, ap, ap₂, ◌∙◌}
use mathlib.Core.Bool.{false, cond}
use mathlib.Core.List.{List, [], ◌∷◌}
use Prim.Native.Nat.{ℕ}
use native.Mathlib.Omega.{arith}
use lib.Dec.{eqb, ltb}
use lib.ListN.{length}
use Rattle.rule.specs.declared.Rule.{Rule}
use Rattle.chain.specs.declared.Link.{Link}
use Rattle.chain.specs.Findings.{findings}
use Rattle.chain.specs.Links.{chain_room}
use Rattle.page.specs.Calls.{first_that_applies, ground, grounds, is_blank, refusal, rules_of}
use Rattle.page.specs.Page.{OpenPage, Page, entries_of, no_page, page, rules_on, width_of}
use Rattle.page.specs.Reached.{Reached}
use Rattle.page.proofs.Lawful.{reached_lawful}
use Rattle.sheet.specs.declared.slate_ask.Reply.{Reply}
use Rattle.sheet.specs.declared.Sheet.{Sheet}
use Rattle.sheet.specs.Record.{fresh}
use Rattle.sheet.specs.Statements.{Asked, IsSheet, chain_on, overlaid, refuses, replies, reply}
use Rattle.sheet.proofs.Stands.{known}
use Rattle.sheet.specs.demands.Demands.{SameRules}

-- what asking comes to, by the width and the rules
module _ (m w : ℕ) (rs : List Rule) where
  abbrev number : ℕ
  number = first_that_applies (ground 1 false ∷ ground 9 (ltb m (chain_room (length rs))) ∷ [])

  abbrev chain : List Link
  chain = cond (eqb number 0) (findings w rs).chain []

  abbrev answer : Reply
  answer = cond (eqb number 0) (replies 0 (findings w rs).kept (length chain)) (refuses number)

module _ (m : ℕ) (o : OpenPage) where
  reply_is : reply (page o) m ≡ answer m o.opening.width (rules_on o.entries)
  unfolding reply chain_on refusal grounds is_blank width_of rules_of entries_of
  reply_is = refl

  chain_is : chain_on (page o) m ≡ chain m o.opening.width (rules_on o.entries)
  unfolding chain_on refusal grounds is_blank width_of rules_of entries_of
  chain_is = refl

module _ (m : ℕ) {s t : Sheet} (same : SameRules s t) where
  same_asking : (pg qg : Page) → Reached pg → Reached qg → s ≡ fresh pg → t ≡ fresh qg → (reply pg m ≡ reply qg m) × (chain_on pg m ≡ chain_on qg m)
  unfolding fresh
  same_asking no_page no_page h k d e = (refl, refl)
  same_asking no_page (page p) h k d e =
      absurd (omega (arith, ap (λ (u : Sheet). u.width) d, ap (λ (u : Sheet). u.width) e, same.width, (reached_lawful k).low))
  same_asking (page o) no_page h k d e =
      absurd (omega (arith, ap (λ (u : Sheet). u.width) d, ap (λ (u : Sheet). u.width) e, same.width, (reached_lawful h).low))
  same_asking (page o) (page p) h k d e =
      let f = known (record { on = o; reached = h; gives = d }) in
      let g = known (record { on = p; reached = k; gives = e }) in
      let width = sym f.width ∙ same.width ∙ g.width in
      let rules = sym f.rules ∙ same.rules ∙ g.rules in (
        reply_is m o ∙ ap₂ (answer m) width rules ∙ sym (reply_is m p),
        chain_is m o ∙ ap₂ (chain m) width rules ∙ sym (chain_is m p),
      )

-- "for a sheet of either edition with the same width and rules, verdict, words and links are the same numbers"
pub either_edition : {s t : Sheet} {b b₁ b₂ : List ℕ} {r₁ r₂ : Reply} → IsSheet s → IsSheet t → SameRules s t → Asked s b b₁ r₁ → Asked t b b₂ r₂
    → (r₁ ≡ r₂) × (b₁ ≡ b₂)
either_edition {b = b} h k same a c =
    let e = same_asking (length b) same h.on k.on h.reached k.reached h.gives k.gives in
    let p = a.on_page h.on h.reached h.gives in
    let q = c.on_page k.on k.reached k.gives in
    (p.0 ∙ e.0 ∙ sym q.0, p.1 ∙ ap (λ (ls : List Link). overlaid ls b) e.1 ∙ sym q.1)
