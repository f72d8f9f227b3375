-- Which rules of a list a word fails: what a rule means, rule by rule.
use Rattle.std.specs.Prelude.{cond, List, [], ◌∷◌, ℕ, suc}
use Rattle.rule.specs.declared.Rule.{Rule}
use Rattle.rule.specs.Meaning.{meets}

-- the numbers of the rules of a list that the word x fails; the first one of the list has the number i
unfoldable pub failed : ℕ → (x i : ℕ) → List Rule → List ℕ
failed w x i [] = []
failed w x i (r ∷ rs) = cond (meets w r x) (failed w x (suc i) rs) (i ∷ failed w x (suc i) rs)
