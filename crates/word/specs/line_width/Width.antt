-- The width at which a line is read.
use Rattle.std.specs.Prelude.{cond, ℕ, leb, ltb}

-- the most bits that a word has
abbrev pub WIDEST : ℕ
WIDEST = 64

-- that of the sheet, and the widest where none is open or the record's width is none
unfoldable pub reading_at : (width : ℕ) → ℕ
reading_at w = cond (ltb w 1) WIDEST (cond (leb w WIDEST) w WIDEST)
