-- A route: what is carried from one part of the input to the next, as one record, and what feeding a part comes to.
use Rattle.std.specs.Prelude.{ℕ}
use Rattle.sheet.specs.declared.Sheet.{Sheet}
use Rattle.frame.specs.declared.exchange.Begun.{Begun}

-- the sheet, and the line that is not finished
pub record Desk : Type 0 where
  pub sheet : Sheet
  pub begun : Begun

abbrev pub desk : Sheet → Begun → Desk
desk s g = record { sheet = s; begun = g }

-- the desk after a part, how much of the part was used, and how many bytes were written
pub record Fed : Type 0 where
  pub desk : Desk
  pub used : ℕ
  pub written : ℕ

abbrev pub fed : Desk → (used written : ℕ) → Fed
fed d used written = record { desk = d; used = used; written = written }
