-- What the code goes by. A route: that it comes to the definition is proved.
use Rattle.std.specs.Prelude.{cond, ℕ, suc, eqb}

-- how many words are covered, from 0 on, at place i of the list: none before the first link, then one more than the largest end
unfoldable pub covered : (i end : ℕ) → ℕ
covered i end = cond (eqb i 0) 0 (suc end)
