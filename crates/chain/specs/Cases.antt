-- The sheets worked by hand that 01 marks P, and K8's, as one table: width, rules, verdict, smallest, largest and links, and the number
-- with which the desk refuses the last rule.
use Rattle.std.specs.Prelude.{List, [], ◌∷◌, ℕ}
use Rattle.rule.specs.declared.Rule.{Rule}
use Rattle.rule.specs.Meaning.{rule}
use Rattle.search.specs.verdict.Kept.{keeps}
use Rattle.chain.specs.Findings.{Findings, says}
use Rattle.chain.specs.Links.{BITS, link}

pub record Case : Type 0 where
  pub width : ℕ
  pub rules : List Rule
  pub expected : Findings
  pub number : ℕ

-- a case whose rules are accepted, and one whose last rule is refused: what its rules mean stands beside
abbrev pub case : ℕ → List Rule → Findings → Case
case w rs a = record { width = w; rules = rs; expected = a; number = 0 }

abbrev pub refused : ℕ → List Rule → Findings → ℕ → Case
refused w rs a n = record { width = w; rules = rs; expected = a; number = n }

-- form 4, 3 with form 5, 13
abbrev pub case6 : List Rule
case6 = rule 4 0 3 0 ∷ rule 5 0 13 0 ∷ []

abbrev pub cases : List Case
cases =
    -- 1, at width 4 and at width 1
    case 4 [] (says (keeps 2 0 15) [])
    ∷ case 1 [] (says (keeps 2 0 1) [])
    -- 2
    ∷ case 4 (rule 3 0 5 3 ∷ []) (says (keeps 2 11 14) [])
    -- 3, as written and negated
    ∷ case 4 (rule 1 0 0 1 ∷ []) (says (keeps 2 0 14) [])
    ∷ case 4 (rule 1 1 0 1 ∷ []) (says (keeps 1 15 15) [])
    -- 4
    ∷ case 4 (rule 1 0 0 0 ∷ []) (says (keeps 2 0 15) [])
    -- 5
    ∷ case 4 (rule 3 0 0 15 ∷ []) (says (keeps 2 0 15) [])
    -- 6
    ∷ case 4 case6 (says (keeps 2 0 15) [])
    -- 7
    ∷ case 4 (rule 3 0 5 3 ∷ rule 7 0 3 3 ∷ []) (says (keeps 1 11 11) [])
    -- 8
    ∷ case 4 (rule 3 0 5 3 ∷ rule 7 0 12 4 ∷ []) (says (keeps 0 0 0) (link 0 10 0 ∷ link 11 15 BITS ∷ []))
    -- 9: "none; link (0,15,255)", and "Case 9 becomes that refusal" (K4)
    ∷ refused 4 (rule 7 0 1 2 ∷ []) (says (keeps 0 0 0) (link 0 15 BITS ∷ [])) 5
    -- K4: "Two form 7 rules that contradict each other stay accepted."
    ∷ case 4 (rule 7 0 1 1 ∷ rule 7 0 1 0 ∷ []) (says (keeps 0 0 0) (link 0 15 BITS ∷ []))
    -- 10
    ∷ case 4 (rule 6 0 9 0 ∷ rule 6 1 9 0 ∷ []) (says (keeps 0 0 0) (link 0 8 0 ∷ link 9 9 1 ∷ link 10 15 0 ∷ []))
    -- 11
    ∷ case 4 (rule 3 0 0 2 ∷ rule 3 0 0 2 ∷ rule 2 0 3 0 ∷ []) (says (keeps 0 0 0) (link 0 2 2 ∷ link 3 15 0 ∷ []))
    -- 12
    ∷ case 4 (rule 8 0 14 3 ∷ []) (says (keeps 2 1 5) [])
    -- K8: "With negated form 3, 0, 9 and then form 3, 0, 4 at width 4"
    ∷ case 4 (rule 3 1 0 9 ∷ rule 3 0 0 4 ∷ []) (says (keeps 0 0 0) (link 0 9 0 ∷ link 5 15 1 ∷ []))
    ∷ []

-- "seven words: 0 to 3, 13 to 15"
abbrev pub case6_words : List ℕ
case6_words = 0 ∷ 1 ∷ 2 ∷ 3 ∷ 13 ∷ 14 ∷ 15 ∷ []
