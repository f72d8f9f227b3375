-- What is told fits the room for an answer. Assumes nothing.
use mathlib.Core.List.{List}
use Prim.Native.Nat.{ℕ, ◌≤◌}
use lib.ListN.{length}
use Rattle.word.specs.declared.Edition.{Edition}
use Rattle.frame.specs.fields.Answers.{ROOM, answer_bytes}
use Rattle.frame.proofs.Saying.{number_fits, reply_fits}
use Rattle.desk.specs.declared.told.Told.{Told}
use Rattle.desk.specs.declared.told.Told.TheVariants.{Asking, Number}
use Rattle.desk.specs.told.route.Told.{Few, told_lines}

pub told_fits : (e : Edition) (t : Told) (b : List ℕ) → Few t → length (answer_bytes (told_lines e t b)) ≤ ROOM
unfolding told_lines Few
told_fits e (Number n) b k = number_fits n
told_fits e (Asking r) b k = reply_fits e r b k
