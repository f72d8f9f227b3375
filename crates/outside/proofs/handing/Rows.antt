-- Rows of numbers as rules: the rule at a place is that of the row there. A truth value as a number. Assumes nothing.
use mathlib.Core.Path.{◌≡◌, refl, sym}
use mathlib.Core.Bool.{Bool, true, false}
use mathlib.Core.List.{List, []}
use Prim.Native.Nat.{ℕ}
use lib.ListN.{get_or-map, get_or, length, length-map}
use mir.Val.{bool_byte}
use Rattle.rule.specs.accept.Accept.{no_rule}
use Rattle.outside.specs.handing.Handed.{number_of, rule_in, rules_in}

pub as_number : (t : Bool) → bool_byte t ≡ number_of t
as_number true = refl
as_number false = refl

pub rule_of_row : (rows : List (List ℕ)) (i : ℕ) → rule_in (get_or rows i []) ≡ get_or (rules_in rows) i no_rule
unfolding rules_in
rule_of_row rows i = sym (get_or-map rule_in rows i [])

pub as_many : (rows : List (List ℕ)) → length (rules_in rows) ≡ length rows
unfolding rules_in
as_many rows = length-map rows rule_in
