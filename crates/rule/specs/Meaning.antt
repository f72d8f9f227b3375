-- What a rule means (01, "The eight forms of rule"), and how far a rule fails around a word.
use Rattle.std.specs.Prelude.{◌≡◌, Bool, true, not, ◌&&◌, ◌||◌, cond, List, [], ◌∷◌, ℕ, suc, ◌-◌, ◌≤◌, leb, ltb, eqb, get_or}
use Rattle.std.specs.Int.Bits.{bit_and}
use Rattle.std.specs.Int.Signed.{le_z}
use Rattle.word.specs.Word.{top, half, plus, minus, signed}
use Rattle.word.specs.Search.{climb, count, sink}
use Rattle.rule.specs.declared.Rule.{Rule}

-- a rule by its four numbers
abbrev pub rule : (form sense c1 c2 : ℕ) → Rule
rule form sense c1 c2 = record { form = form; sense = sense; c1 = c1; c2 = c2 }

-- "settled: c2 <= (x - c1) and (x - c1) < half", where c1 is the tick of the power change and c2 the settling time
abbrev pub settled : (w c1 c2 x : ℕ) → Bool
settled w c1 c2 x = leb c2 (minus w x c1) && ltb (minus w x c1) (half w)

-- The table, a row for each form from 1 on: what it says of the word x. (0 is no form.)
unfoldable pub rows : (w c1 c2 x : ℕ) → List Bool
rows w c1 c2 x =
    true
    ∷ leb (plus w c1 x) (plus w c2 x)
    ∷ leb c1 (plus w c2 x)
    ∷ leb (plus w c1 x) c2
    ∷ le_z (signed w x) (signed w c1)
    ∷ le_z (signed w c1) (signed w x)
    ∷ eqb x c1
    ∷ eqb (bit_and x c1) c2
    ∷ settled w c1 c2 x
    ∷ []

-- The word x meets the rule as written: what the form's row says. A number that is no form forbids nothing.
unfoldable pub written : ℕ → Rule → ℕ → Bool
written w r x = get_or (rows w r.c1 r.c2 x) r.form true

-- "a sense (0 as written, 1 negated)"
unfoldable pub meets : ℕ → Rule → ℕ → Bool
meets w r x = cond (eqb r.sense 0) (written w r x) (not (written w r x))

-- a word fits when it meets every rule in force
unfoldable pub fits : ℕ → List Rule → ℕ → Bool
fits w [] x = true
fits w (r ∷ rs) x = meets w r x && fits w rs x

-- "that rule's reach is the largest q such that every word from p to q fails it"
unfoldable pub reach : ℕ → Rule → ℕ → ℕ
reach w r p = climb (meets w r) (top w - p) p

-- where the run of failing words around p starts: the smallest q such that every word from q to p fails the rule
unfoldable pub start : ℕ → Rule → ℕ → ℕ
start w r p = sink (meets w r) p

-- a run of failing words ends at x: x fails the rule, and x is the top word or the next word meets it
unfoldable pub ends : ℕ → Rule → ℕ → Bool
ends w r x = not (meets w r x) && (eqb x (top w) || meets w r (suc x))

-- the runs of words that fail the rule and end at p or later
unfoldable pub runs : ℕ → Rule → ℕ → ℕ
runs w r p = count (ends w r) (suc (top w) - p) p

-- the word x meets all form 7 rules
unfoldable pub meets7 : ℕ → List Rule → ℕ → Bool
meets7 w [] x = true
meets7 w (r ∷ rs) x = cond (eqb r.form 7) (meets w r x) true && meets7 w rs x

-- What the leaves ask of a rule: its constants are words, and a bit rule is not negated. Refusals 4 and 5 see to it.
pub record Lawful (w : ℕ) (r : Rule) : Type 0 where
  pub c1_word : r.c1 ≤ top w
  pub c2_word : r.c2 ≤ top w
  pub plain : r.form ≡ 7 → r.sense ≡ 0

-- every rule of the list is
unfoldable pub AllLawful : ℕ → List Rule → Type 0
AllLawful w [] = Unit {0}
AllLawful w (r ∷ rs) = Lawful w r × AllLawful w rs

-- how many forms there are: the table's rows but the first
abbrev pub FORMS : ℕ
FORMS = 8

-- the most "rules in force" (01, raised by K6)
abbrev pub RULES : ℕ
RULES = 200
