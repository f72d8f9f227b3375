-- A route: what is noted in the rows is what a search would find.
use Rattle.std.specs.Prelude.{◌≡◌, true, List, ℕ, ◌≤◌, take}
use Rattle.rule.specs.declared.Rule.{Rule}
use Rattle.rule.specs.bits.route.Fixed.{fixed_bits}
use Rattle.search.specs.rows.route.Rows.{rules_in}
use Rattle.search.specs.verdict.Kept.{kept}
use Rattle.search.specs.declared.noting.Note.{Note}
pub use Rattle.search.specs.noting.route.Note.{note_at, note_in, noting}

-- a note on the first n rules is so
pub record Noted (w n : ℕ) (rs : List Rule) (m : Note) : Type 0 where
  pub keeps_so : m.kept ≡ kept w (take n rs)
  pub fixes_so : m.fixed ≡ fixed_bits (take n rs)

-- and every note that is known, of the first rules given
pub record Notes (w given : ℕ) (rows : List (List ℕ)) : Type 0 where
  pub true_so : (n : ℕ) → n ≤ given → (note_at w rows n).known ≡ true → Noted w n (rules_in rows) (note_at w rows n)
