-- What asking on a slate answers and writes, said of head and rows alone: its ways out, each with what is then known. A route: what asking must
-- answer is said of the record that they stand for, and that this does it is proved where the record stands (sheet: proofs/Asking.antt).
use Rattle.std.specs.Prelude.{◌≡◌, List, ◌++◌, ℕ, ◌*◌, ◌≤◌, ◌<◌, drop, length, take}
use Rattle.search.specs.rows.route.Rows.{rules_in}
use Rattle.chain.specs.declared.Link.{Link}
use Rattle.chain.specs.Links.{chain_room, links, numbers_of}
use Rattle.sheet.specs.declared.slate.Head.{Head}
use Rattle.sheet.specs.slate.route.Numbers.{before}
use Rattle.sheet.specs.slate.stepping.route.Steps.{Refused}
use Rattle.sheet.specs.declared.slate_ask.Reply.{Reply}
use Rattle.sheet.specs.slate_ask.Reply.{refuses, replies}

-- the chain of the rules in force
abbrev pub chain_in : Head → List (List ℕ) → List Link
chain_in h rows = links h.opening.width (take h.counts.count (rules_in rows))

-- asking is refused, and the buffer stays; or a word fits, and it stays too; or none does, and the chain is laid at its start
pub data Asks (h : Head) (rows : List (List ℕ)) (b : List ℕ) : List ℕ → Reply → Type 0 where
  unasked : {n : ℕ} → Refused h 9 (length b < chain_room h.counts.count) n → Asks h rows b b (refuses n)
  some_fit : before h.stands h.opening.width ≡ 0 → chain_room h.counts.count ≤ length b → (h.kept.verdict ≡ 0 → ⊥)
      → Asks h rows b b (replies 0 h.kept 0)
  none_fits : {b' : List ℕ} {n : ℕ} → before h.stands h.opening.width ≡ 0 → chain_room h.counts.count ≤ length b → h.kept.verdict ≡ 0
      → n ≡ length (chain_in h rows) → b' ≡ numbers_of (chain_in h rows) ++ drop (3 * n) b → Asks h rows b b' (replies 0 h.kept n)
