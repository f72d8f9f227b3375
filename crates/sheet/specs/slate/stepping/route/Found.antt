-- What is asked of rows where what is kept of their first rules is looked for. A route.
use Rattle.std.specs.Prelude.{◌≡◌, true, List, ℕ, ◌≤◌, length, take}
use Rattle.word.specs.Word.{IsWidth}
use Rattle.rule.specs.Meaning.{AllLawful, RULES}
use Rattle.rule.specs.bits.route.Fixed.{fixed_bits}
use Rattle.search.specs.rows.route.Rows.{bands_in, rules_in}
use Rattle.search.specs.declared.verdict.Kept.{Kept}
use Rattle.search.specs.verdict.route.OnBands.{Bounds}
use Rattle.sheet.specs.slate.route.Held.{Drawn}
use Rattle.search.specs.noting.route.Note.{note_at}
use Rattle.sheet.specs.slate.route.Notes.{Noted}

-- the first n rules are lawful and their bands are drawn; a note on them is so; and what was kept before bounds what is kept of them
pub record Sought (w n : ℕ) (rows : List (List ℕ)) (before : Kept) : Type 0 where
  pub width : IsWidth w
  pub places : length rows ≡ RULES
  pub few : n ≤ RULES
  pub lawful : AllLawful w (take n (rules_in rows))
  pub drawn : Drawn w n n (rules_in rows) (bands_in rows) (fixed_bits (take n (rules_in rows)))
  pub noted : (note_at w rows n).known ≡ true → Noted w n (rules_in rows) (note_at w rows n)
  pub bounds : Bounds w (take n (bands_in rows)) (fixed_bits (take n (rules_in rows))) before
