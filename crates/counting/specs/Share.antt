-- How many words fit, "given as two numbers, quotient and remainder by 2^32".
use Rattle.std.specs.Prelude.{ℕ, ◌+◌, ◌*◌, ◌/◌, ◌%◌}
use Rattle.counting.specs.tally.route.Total.{UNIT}
use Rattle.counting.specs.declared.Share.{Share}

-- a number, 0 or that of a refusal, and h words
abbrev pub shares : (number h : ℕ) → Share
shares number h = record { number = number; quotient = h / UNIT; remainder = h % UNIT }

-- the two numbers together
abbrev pub together : Share → ℕ
together s = s.quotient * UNIT + s.remainder
