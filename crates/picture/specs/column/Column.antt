-- The columns of a picture: "the line of words in 64 columns".
use Rattle.std.specs.Prelude.{ℕ, min, ◌+◌, ◌-◌, ◌*◌, ◌^◌}
use Rattle.rule.specs.declared.band.Run.{Run}

abbrev pub COLUMNS : ℕ
COLUMNS = 64

-- 64 columns, or at fewer than 6 bits a column a word
unfoldable pub columns : ℕ → ℕ
columns w = 2 ^ min w 6

-- the words of a column, from 6 bits on 2^(w-6) of them
unfoldable pub size : ℕ → ℕ
size w = 2 ^ (w - 6)

unfoldable pub words_of : (w c : ℕ) → Run
words_of w c = record { from = c * size w; to = c * size w + (size w - 1) }
