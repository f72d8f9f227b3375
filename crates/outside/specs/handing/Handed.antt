-- What the numbers stand for that a caller outside hands in, and when a rule and a word are refused.
use Rattle.std.specs.Prelude.{Bool, ◌&&◌, cond, List, map, ℕ, eqb, leb, get_or}
use Rattle.word.specs.declared.Edition.{Edition}
use Rattle.word.specs.declared.Edition.TheVariants.{New, Old}
use Rattle.word.specs.Word.{top}
use Rattle.rule.specs.declared.Rule.{Rule}
use Rattle.rule.specs.Meaning.{meets, rule}
use Rattle.rule.specs.accept.Accept.{refusal_of}
use Rattle.page.specs.declared.Opening.{Opening}

-- form, sense, c1, c2
abbrev pub rule_in : List ℕ → Rule
rule_in ns = rule (get_or ns 0 0) (get_or ns 1 0) (get_or ns 2 0) (get_or ns 3 0)

-- the rules of a list, a row each
unfoldable pub rules_in : List (List ℕ) → List Rule
rules_in = map rule_in

-- an edition by its number: 0 is the old one, any other the new one
abbrev pub edition_of : ℕ → Edition
edition_of n = cond (eqb n 0) Old New

abbrev pub opening_of : (width edition : ℕ) → Opening
opening_of w e = record { width = w; edition = edition_of e }

-- true is 1, and false is 0
abbrev pub number_of : Bool → ℕ
number_of t = cond t 1 0

-- When a rule and a word at a width are refused: "a width outside 1 to 64" with 2, a rule as an add is, and a word "above the top
-- word" with 5.
unfoldable pub weigh_number : ℕ → Rule → (x : ℕ) → ℕ
weigh_number w r x = cond (leb 1 w && leb w 64) (cond (eqb (refusal_of w r) 0) (cond (leb x (top w)) 0 5) (refusal_of w r)) 2

-- whether the word meets the rule, as a number; 0 where they are refused
unfoldable pub weighed : ℕ → Rule → (x : ℕ) → ℕ
weighed w r x = cond (eqb (weigh_number w r x) 0) (number_of (meets w r x)) 0
