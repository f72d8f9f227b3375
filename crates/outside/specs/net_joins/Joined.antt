-- The joins of a net as rows of numbers (02, K12).
use Rattle.std.specs.Prelude.{List, ℕ, get_or}
use Rattle.span.specs.declared.interval.Op.TheVariants.{Not}
use Rattle.net.specs.declared.net_step.Join.{Join}
use Rattle.outside.specs.on_words.Joins.{op_of}

-- the join of a row: what joins, and the places of h, x and y
abbrev pub join_of : List ℕ → Join
join_of ns = record { op = op_of (get_or ns 0 0); h = get_or ns 1 0; x = get_or ns 2 0; y = get_or ns 3 0 }

-- a place not in use
abbrev pub no_join : Join
no_join = record { op = Not; h = 0; x = 0; y = 0 }
