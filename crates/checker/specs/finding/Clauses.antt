-- The paper's clauses on a list of links (02, K3), a row each, in order: whether it holds, and the breach where it does not. A sentence
-- of the paper stands above each row.
use Rattle.std.specs.Prelude.{Bool, not, ◌||◌, cond, List, [], ◌∷◌, ◌++◌, ℕ, suc, max, ◌-◌, eqb, leb, ltb, length, Result, Ok, Err}
use Rattle.std.specs.Prelude.{Option}
use Rattle.std.specs.Prelude.{Some, None}
use Rattle.word.specs.Word.{top}
use Rattle.word.specs.Search.{first}
use Rattle.rule.specs.declared.Rule.{Rule}
use Rattle.rule.specs.Meaning.{meets, meets7}
use Rattle.chain.specs.declared.Link.{Link}
use Rattle.chain.specs.Links.{BITS, nth}
use Rattle.checker.specs.covering.Check.{every_word}
use Rattle.checker.specs.declared.finding.Breach.{Breach}
use Rattle.checker.specs.declared.finding.Breach.TheVariants.{AboveTop, Backward, BitRule, Gap, MeetsBits, MeetsRule, NoRule, NotFromZero, Short}

-- a clause: whether it holds, and the breach where it does not
pub record Clause : Type 0 where
  pub holds : Bool
  pub found : Breach

abbrev pub clause : Bool → Breach → Clause
clause b f = record { holds = b; found = f }

-- the breach of the first clause that does not hold, if there is one
unfoldable pub first_broken : List Clause → Result Unit Breach
first_broken [] = Ok tt
first_broken (c ∷ cs) = cond c.holds (first_broken cs) (Err c.found)

-- the smallest word of a link that passes a test
unfoldable pub the_word : Option ℕ → ℕ
the_word (Some x) = x
the_word None = 0

unfoldable pub smallest : (ℕ → Bool) → Link → ℕ
smallest f l = the_word (first f (suc l.to - l.from) l.from)

-- where link number i lies, where e is the largest end before it and t the top word
unfoldable pub lie_clauses : (t i e : ℕ) → Link → List Clause
lie_clauses t i e l =
    -- "each link has from <= to <= top"
    clause (leb l.from l.to) (Backward i)
    ∷ clause (leb l.to t) (AboveTop i)
    -- "the first starts at 0"
    ∷ clause (not (eqb i 0) || eqb l.from 0) (NotFromZero i)
    -- "each later one starts at most one past the largest end so far"
    ∷ clause (eqb i 0 || leb l.from (suc e)) (Gap i)
    ∷ []

-- what its reason shows of its words
unfoldable pub reason_clauses : ℕ → List Rule → (i : ℕ) → Link → List Clause
reason_clauses w rs i l =
    let named = ltb l.reason (length rs) in
    let rule = nth rs l.reason in
    -- "each reason is either the number of a rule in force .. or 255"
    clause (named || eqb l.reason BITS) (NoRule i)
    -- "not of form 7"
    ∷ clause (not named || not (eqb rule.form 7)) (BitRule i)
    -- "which every word of the link fails"
    ∷ clause (not named || every_word (λ (x : ℕ). not (meets w rule x)) l.from l.to) (MeetsRule i (smallest (meets w rule) l))
    -- "no word of the link meets all form 7 rules"
    ∷ clause (not (eqb l.reason BITS) || every_word (λ (x : ℕ). not (meets7 w rs x)) l.from l.to) (MeetsBits i (smallest (meets7 w rs) l))
    ∷ []

-- the links from number i on, one after another, and after them "the largest end is the top word"
unfoldable pub list_clauses : ℕ → List Rule → (i e : ℕ) → List Link → List Clause
list_clauses w rs i e [] = clause (eqb e (top w)) Short ∷ []
list_clauses w rs i e (l ∷ ls) =
    lie_clauses (top w) i e l ++ (reason_clauses w rs i l ++ list_clauses w rs (suc i) (max e l.to) ls)
