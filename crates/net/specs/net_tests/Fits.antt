-- When a net has places for its words and joins, and words for its joins.
use Rattle.std.specs.Prelude.{Bool, true, ◌&&◌, List, ℕ, zero, suc, leb, get_or}
use Rattle.span.specs.declared.interval.Op.TheVariants.{Not}
use Rattle.net.specs.declared.net_step.Join.{Join}
use Rattle.net.specs.net_step.Named.{WORDS, named}

-- "and up to 32 joins"
abbrev pub JOINS : ℕ
JOINS = 32

-- the join with a number
abbrev pub join_at : List Join → ℕ → Join
join_at js k = get_or js k (record { op = Not; h = 0; x = 0; y = 0 })

-- every number below n passes
unfoldable pub every : ℕ → (ℕ → Bool) → Bool
every zero f = true
every (suc n) f = f n && every n f

-- not "too many words or joins, or a join naming a word that isn't there"
unfoldable pub fits : (count : ℕ) → List Join → (joined : ℕ) → Bool
fits count js joined = leb count WORDS && (leb joined JOINS && every joined (λ k. named count (join_at js k)))
