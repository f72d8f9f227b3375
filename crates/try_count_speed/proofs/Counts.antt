-- How many words a buffer holds, as the code has it. Assumes nothing.
use Rattle.std.proofs.Common.{ℕ}

-- the words of a buffer
abbrev pub ROOM : ℕ
ROOM = 4000
