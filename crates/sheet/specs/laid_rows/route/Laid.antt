-- A route: a head and rows that stand for a record, with some marks beside them. What a call must answer is said of the record.
use Rattle.std.specs.Prelude.{◌≡◌, List, ℕ}
use Rattle.sheet.specs.declared.slate.Head.{Head}
use Rattle.sheet.specs.slate.route.Held.{Held}
use Rattle.sheet.specs.declared.Sheet.{Sheet}
use Rattle.sheet.specs.route.Held.{packed}

pub record LaidIn (s : Sheet) (h : Head) (rows : List (List ℕ)) : Type 0 where
  pub marks : List ℕ
  pub packs : packed h rows marks ≡ s
  pub held : Held h rows marks
