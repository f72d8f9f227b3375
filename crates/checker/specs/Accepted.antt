-- The same, as the paper lists it and with no search: what holds of a list that gets yes. That the check says yes exactly where
-- this holds is proved (proofs/Exactly.antt), and is a part of the call's contract.
use Rattle.std.specs.Prelude.{◌≡◌, List, ℕ, suc, ◌≤◌, ◌<◌, get_or, length, take}
use Rattle.word.specs.Word.{top}
use Rattle.rule.specs.declared.Rule.{Rule}
use Rattle.chain.specs.declared.Link.{Link}
use Rattle.chain.specs.Chain.{Shows}
use Rattle.chain.specs.Links.{link, numbers_of}
use Rattle.sheet.specs.declared.Sheet.{Sheet}
use Rattle.sheet.specs.Statements.{IsSheet}
use Rattle.checker.specs.covering.Check.{largest_end}

-- link number i of a list
abbrev pub link_no : List Link → ℕ → Link
link_no ls i = get_or ls i (link 0 0 0)

-- a link with its two ends in order, both words
pub record InOrder (w : ℕ) (l : Link) : Type 0 where
  pub order : l.from ≤ l.to
  pub word : l.to ≤ top w

-- the clauses on the links, one by one
pub record ShownBy (w : ℕ) (rs : List Rule) (ls : List Link) : Type 0 where
  -- "the list isn't empty"
  pub some : 0 < length ls
  -- "each link has from <= to <= top"
  pub in_order : (i : ℕ) → i < length ls → InOrder w (link_no ls i)
  -- "the first starts at 0"
  pub first : (link_no ls 0).from ≡ 0
  -- "each later one starts at most one past the largest end so far"
  pub later : (i : ℕ) → 0 < i → i < length ls → (link_no ls i).from ≤ suc (largest_end 0 (take i ls))
  -- "the largest end is the top word"
  pub whole : largest_end 0 ls ≡ top w
  -- "each reason is either the number of a rule in force, not of form 7, which every word of the link fails, or 255 where no word of
  -- the link meets all form 7 rules"
  pub reasons : (i : ℕ) → i < length ls → Shows w rs (link_no ls i)

-- and on the sheet and the list: a sheet that is not blank, and "a length that isn't a multiple of three gets no"
pub record Accepted (s : Sheet) (ns : List ℕ) : Type 0 where
  pub sheet : IsSheet s
  pub not_blank : s.width ≡ 0 → ⊥
  pub links : List Link
  pub threes : ns ≡ numbers_of links
  pub shown : ShownBy s.width (take s.count s.rules) links
