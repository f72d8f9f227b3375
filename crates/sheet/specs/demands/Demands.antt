-- Demands 2 and 3 in the paper's own words, of what the calls answer.
use Rattle.std.specs.Prelude.{◌≡◌, List, ℕ, length, take}
use Rattle.rule.specs.declared.Rule.{Rule}
use Rattle.search.specs.verdict.Demand.{Right}
use Rattle.chain.specs.declared.Link.{Link}
use Rattle.chain.specs.Chain.{IsChain}
use Rattle.sheet.specs.declared.slate_ask.Reply.{Reply}
use Rattle.sheet.specs.declared.Sheet.{Sheet}
use Rattle.page.specs.Calls.{replay}
use Rattle.page.specs.Page.{Page}
use Rattle.sheet.specs.Record.{blank}
use Rattle.sheet.specs.Statements.{AllAccepted, Sequence, overlaid}

-- links as they are handed over: the chain from zero, its length as the count, laid in the buffer, b before and b' after
pub record ChainLaid (w : ℕ) (rs : List Rule) (b b' : List ℕ) (count : ℕ) : Type 0 where
  pub chain : List Link
  pub is_chain : IsChain w rs 0 chain
  pub counted : count ≡ length chain
  pub laid : b' ≡ overlaid chain b

-- Demand 2. "Asked, it says none, one or many by machine arithmetic, with the smallest and largest fitting word, and for "none"
-- the one chain of links from zero to the top word." "For "one" and "many" the count is 0 and the buffer stays untouched."
pub record AskedRight (w : ℕ) (rs : List Rule) (b b' : List ℕ) (r : Reply) : Type 0 where
  pub accepted : r.number ≡ 0
  pub right : Right w rs r.kept
  pub none : r.kept.verdict ≡ 0 → ChainLaid w rs b b' r.links
  pub one_or_many : (r.kept.verdict ≡ 0 → ⊥) → (r.links ≡ 0) × (b' ≡ b)

-- Demand 3. After any sequence of calls "the sheet equals a fresh one given what stands on the page, then every waiting stretch, the one
-- next to come back first, and then taken back once for each of them", in every field: these calls can be made on a blank sheet, and
-- whatever comes of them is the sheet, with none of them refused.
pub record FreshlyGiven (s : Sheet) (pg : Page) : Type 0 where
  pub given : (t : Sheet) × Sequence blank (replay pg) t
  pub equals : {t : Sheet} → Sequence blank (replay pg) t → s ≡ t
  pub accepted : {t : Sheet} (q : Sequence blank (replay pg) t) → AllAccepted q

-- two sheets with the same width and the same rules in force, of whatever edition
pub record SameRules (s t : Sheet) : Type 0 where
  pub width : s.width ≡ t.width
  pub rules : take s.count s.rules ≡ take t.count t.rules
