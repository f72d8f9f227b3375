-- The cells of a picture: "the line of words in 64 columns, a row a rule and a row for all".
use Rattle.std.specs.Prelude.{Bool, not, ◌&&◌, cond, ℕ, eqb, ltb, take}
use Rattle.rule.specs.Meaning.{fits, meets}
use Rattle.chain.specs.Links.{nth}
use Rattle.sheet.specs.declared.Sheet.{Sheet}
use Rattle.sheet.specs.route.Shape.{is_sheet}
use Rattle.picture.specs.declared.shade.Cell.{Cell}
use Rattle.picture.specs.declared.shade.Cell.TheVariants.{Nowhere}
use Rattle.picture.specs.shade.Cell.{cell_of}
use Rattle.picture.specs.column.Column.{columns, words_of}

-- how a column goes by a test
unfoldable pub column_cell : (w c : ℕ) → (ℕ → Bool) → Cell
column_cell w c f = cell_of f (words_of w c).from (words_of w c).to

-- there is a sheet that is not blank, and such a column
unfoldable pub drawable : Sheet → (c : ℕ) → Bool
drawable s c = is_sheet s && (not (eqb s.width 0) && ltb c (columns s.width))

-- by all rules in force
unfoldable pub all_cell : Sheet → (c : ℕ) → Cell
all_cell s c = cond (drawable s c) (column_cell s.width c (fits s.width (take s.count s.rules))) Nowhere

-- by rule number i of those
unfoldable pub rule_cell : Sheet → (i c : ℕ) → Cell
rule_cell s i c =
    cond (drawable s c && ltb i s.count) (column_cell s.width c (meets s.width (nth (take s.count s.rules) i))) Nowhere
