-- What is told of a sheet that a caller keeps, by its numbers ns: "a spoiled sheet gets 17", with zeros and the lent buffer, b before and b'
-- after, as it was; else what the call beneath answers on the sheet's page.
use Rattle.std.specs.Prelude.{◌≡◌, List, [], ◌∷◌, ℕ, length}
use Rattle.page.specs.Page.{Page}
use Rattle.page.specs.Reached.{Reached}
use Rattle.sheet.specs.declared.slate_ask.Reply.{Reply}
use Rattle.sheet.specs.Record.{fresh}
use Rattle.sheet.specs.Statements.{chain_on, overlaid, refuses, reply}
use Rattle.counting.specs.declared.Share.{Share}
use Rattle.counting.specs.Counted.{share_of}
use Rattle.counting.specs.Share.{shares}
use Rattle.counting.specs.fitting.Words.{at_start}
use Rattle.listing.specs.list_refusal.Grounds.{list_number}
use Rattle.listing.specs.Listed.{list_on}
use Rattle.keeping.specs.kept_numbers.Numbers.{IsKept, numbers_of}

-- ---- asking

-- the number, and the numbers of an answer: the verdict, the smallest and the largest word, and how many links there are
abbrev pub Replied : Reply → (r : ℕ) → (answer : List ℕ) → Type 0
Replied p r zs = (r ≡ p.number) × (zs ≡ p.kept.verdict ∷ p.kept.smallest ∷ p.kept.largest ∷ p.links ∷ [])

pub record Asked (ns b b' answer : List ℕ) (r : ℕ) : Type 0 where
  pub spoiled : (IsKept ns → ⊥) → Replied (refuses 17) r answer × (b' ≡ b)
  pub on_page : (pg : Page) → Reached pg → ns ≡ numbers_of (fresh pg)
      → Replied (reply pg (length b)) r answer × (b' ≡ overlaid (chain_on pg (length b)) b)

-- ---- counting

-- the number, the quotient and the remainder
abbrev pub Shared : Share → (r : ℕ) → (answer : List ℕ) → Type 0
Shared s r zs = (r ≡ s.number) × (zs ≡ s.quotient ∷ s.remainder ∷ [])

pub record Counted (ns answer : List ℕ) (r : ℕ) : Type 0 where
  pub spoiled : (IsKept ns → ⊥) → Shared (shares 17 0) r answer
  pub on_page : (pg : Page) → Reached pg → ns ≡ numbers_of (fresh pg) → Shared (share_of pg) r answer

-- ---- listing

pub record Listed (ns : List ℕ) (start : ℕ) (b b' : List ℕ) (written r : ℕ) : Type 0 where
  pub spoiled : (IsKept ns → ⊥) → (r ≡ 17) × (written ≡ 0) × (b' ≡ b)
  pub on_page : (pg : Page) → Reached pg → ns ≡ numbers_of (fresh pg)
      → (r ≡ list_number pg start) × (written ≡ length (list_on pg start (length b))) × (b' ≡ at_start (list_on pg start (length b)) b)
