-- A route: the words that are written by the rows. What a listing must answer is said of the record.
use Rattle.std.specs.Prelude.{List, ℕ, suc, ◌-◌, take}
use Rattle.word.specs.Search.{passing}
use Rattle.word.specs.Word.{top}
use Rattle.search.specs.declared.rows.InForce.{InForce}
use Rattle.search.specs.rows.route.Bands.{passes}
use Rattle.search.specs.rows.route.Rows.{bands_in}

-- the words from a start on that pass what is in force, as many as there is room for
abbrev pub words_in : (rows : List (List ℕ)) → InForce → (start room : ℕ) → List ℕ
words_in rows f start room = take room (passing (passes (take f.count (bands_in rows)) f.fixed) (suc (top f.width.bits) - start) start)
