-- A route: what comes next in a part of the input, where a line may have begun before it. That lines taken so are those of the exchange is proved
-- (proofs/next_line/Told.antt).
use Rattle.std.specs.Prelude.{cond, List, ℕ, ◌+◌, eqb, drop, length}
use Rattle.frame.specs.route.Reading.{frame_of}
use Rattle.frame.specs.input_line.Lines.{line_of}
use Rattle.frame.specs.declared.exchange.Begun.{Begun}
use Rattle.frame.specs.exchange.route.Begun.{begun_line, joined}
use Rattle.desk.specs.declared.next_line.Next.{Next}
use Rattle.desk.specs.declared.next_line.Next.TheVariants.{Line, Rest}

-- a line that ends at a place: the rest of the part, where that ends there too, and else its frame and the place after its byte 10
abbrev pub after : Begun → (line part : List ℕ) (end : ℕ) → Next
after g line part end = cond (eqb end (length part)) Rest (Line (frame_of (begun_line (joined g line))) (end + 1))

unfoldable pub next_of : Begun → (part : List ℕ) (from : ℕ) → Next
next_of g part from = after g (line_of (drop from part)) part (from + length (line_of (drop from part)))
