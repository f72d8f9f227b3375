-- What the numbers of a sheet are read as: rules, four numbers each, and as many marks as a sheet has. Assumes nothing.
use mathlib.Core.Path.{◌≡◌, refl, sym, ap, ap₂, ◌∙◌}
use mathlib.Core.List.{List, [], ◌∷◌, map}
use Rattle.std.specs.Simd.{first_chunks}
use Prim.Native.Nat.{ℕ, zero, suc}
use native.Mathlib.Omega.{arith}
use lib.ListN.{drop, get_or, get_or-map, length, length-drop, take}
use lib.Seq.{get_or-take, length-take-le}
use Rattle.rule.specs.declared.Rule.{Rule}
use Rattle.rule.specs.Meaning.{RULES, rule}
use Rattle.rule.specs.accept.Accept.{no_rule}
use Rattle.page.specs.Page.{MARKS}
use Rattle.outside.specs.handing.Handed.{rule_in}
use Rattle.keeping.specs.kept_numbers.Numbers.{HEAD, NUMBERS, RULES_AT}
use Rattle.keeping.specs.kept_numbers.route.Reading.{marks_in, rules_from, rules_in}

-- rules read from chunks of four numbers
read_chunk : (ns : List ℕ) → rule_in (take 4 ns) ≡ rule_in ns
read_chunk ns =
    λ k. rule (get_or-take 4 ns 0 0 (omega arith) k) (get_or-take 4 ns 1 0 (omega arith) k) (get_or-take 4 ns 2 0 (omega arith) k) (get_or-take 4 ns 3 0 (omega arith) k)

pub from_chunks : (n : ℕ) (ns : List ℕ) → map rule_in (first_chunks 4 n ns) ≡ rules_from n ns
unfolding rules_from
from_chunks zero ns = refl
from_chunks (suc n) ns = ap₂ (λ (r : Rule) (rs : List Rule). r ∷ rs) (read_chunk ns) (from_chunks n (drop 4 ns))

many_from : (n : ℕ) (ns : List ℕ) → length (rules_from n ns) ≡ n
unfolding rules_from
many_from zero ns = refl
many_from (suc n) ns = ap suc (many_from n (drop 4 ns))

module _ (ns : List ℕ) where
  -- the rule of a chunk is the rule at its place
  pub rule_read : (i : ℕ) → rule_in (get_or (first_chunks 4 RULES (drop RULES_AT ns)) i []) ≡ get_or (rules_in ns) i no_rule
  unfolding rules_in
  rule_read i =
      let rows : List (List ℕ) = first_chunks 4 RULES (drop RULES_AT ns) in
      sym (get_or-map rule_in rows i []) ∙ ap (λ (rs : List Rule). get_or rs i no_rule) (from_chunks RULES (drop RULES_AT ns))

  pub rules_many : length (rules_in ns) ≡ RULES
  unfolding rules_in
  rules_many = many_from RULES (drop RULES_AT ns)

  pub marks_many : length ns ≡ NUMBERS → length (marks_in ns) ≡ MARKS
  unfolding marks_in
  marks_many h = length-take-le MARKS (drop HEAD ns) (omega (arith, length-drop HEAD ns))
