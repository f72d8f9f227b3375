-- A route: how many rules of a list are read. That the rules past them change nothing is proved where the list is read (`batch: Cut`).
use Rattle.std.specs.Prelude.{cond, ℕ, ◌+◌, ltb}
use Rattle.rule.specs.Meaning.{RULES}

-- no rule past as many as a sheet takes and one more
abbrev pub few : ℕ → ℕ
few n = cond (ltb (RULES + 1) n) (RULES + 1) n
