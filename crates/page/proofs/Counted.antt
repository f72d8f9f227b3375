-- "On the clerk's page a gate counts as its four rules, and as an accepted add it empties what waits": an accepted gate writes what
-- adding its rules one after the other writes, and none of these adds is refused. Assumes nothing.
use mathlib.Core.Path.{◌≡◌, refl}
use mathlib.Core.List.{List, [], ◌∷◌, map}
use Prim.Native.Nat.{◌<◌}
use lib.ListN.{length}
use Rattle.word.specs.declared.Edition.{Edition}
use Rattle.word.proofs.Editions.{same_self}
use Rattle.rule.specs.declared.Rule.{Rule}
use Rattle.rule.specs.Meaning.{RULES}
use Rattle.rule.specs.accept.Accept.{refusal_of}
use Rattle.gate.specs.declared.Gate.{Gate}
use Rattle.gate.specs.Gate.{gate_rules, listed}
use Rattle.page.specs.Calls.{add, changed, refusal, set_gate, with_rules, written}
use Rattle.page.specs.Page.{Entry, OpenPage, a_rule, page, pile_of, restored, rules_on, with_entries}
use Rattle.page.specs.Reached.{Reached, step}
use Rattle.page.proofs.Lawful.{Lawfully, reached_page, under_rule}
use Rattle.page.proofs.Refusals.{add_fits}
use Rattle.page.proofs.Replayed.{Leads, leads_none, leads_on, leads_one}

module _ (o : OpenPage) where
  abbrev own : Edition
  own = o.opening.edition

  -- the first of rules that stand below each other was acceptable, and had a place
  first_stood : (r : Rule) (rs : List Rule) (es : List Entry) → Lawfully o (with_rules (r ∷ rs) es) → (refusal_of o.opening.width r ≡ 0) × (length (rules_on es) < RULES)
  unfolding with_rules
  first_stood r rs es l = let u = under_rule o es r (stood rs (a_rule r ∷ es) l) in (u.1, u.2)
    where
      stood : (rs : List Rule) (es : List Entry) → Lawfully o (with_rules rs es) → Lawfully o es
      stood [] es l = l
      stood (r ∷ rs) es l = (under_rule o es r (stood rs (a_rule r ∷ es) l)).0

  adds : (rs : List Rule) (es : List Entry) → Lawfully o (with_rules rs es) → Leads (page (with_entries o es)) (map (add own) rs) (page (with_entries o (with_rules rs es)))
  unfolding with_rules written changed
  adds [] es l = leads_none (page (with_entries o es))
  adds (r ∷ rs) es l =
      let f = first_stood r rs es l in
      leads_on (leads_one (page (with_entries o es)) (add own r) (add_fits (with_entries o es) own r (same_self own) f.0 f.1) refl)
      (adds rs (a_rule r ∷ es) l)

  -- with what waits, which the first add empties
  first_adds : (r : Rule) (rs : List Rule) → Lawfully o (with_rules (r ∷ rs) o.entries)
      → Leads (page o) (map (add own) (r ∷ rs)) (page (with_entries o (with_rules (r ∷ rs) o.entries)))
  unfolding with_rules written changed
  first_adds r rs l =
      let f = first_stood r rs o.entries l in
      leads_on (leads_one (page o) (add own r) (add_fits o own r (same_self own) f.0 f.1) refl) (adds rs (a_rule r ∷ o.entries) l)

  pub counts_as_rules : (g : Gate) → Reached (page o) → refusal (page o) (set_gate g) ≡ 0
      → Leads (page o) (map (add own) (gate_rules g)) (written (page o) (set_gate g))
  unfolding gate_rules listed written changed restored
  counts_as_rules g h e = first_adds _ _ (reached_page (step h (set_gate g) e)).restores

  pub empties : (g : Gate) → pile_of (written (page o) (set_gate g)) ≡ []
  unfolding pile_of written changed
  empties g = refl
