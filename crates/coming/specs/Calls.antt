-- What a read or a write came to, and whether another follows. What the system does is not said here: only what the desk makes of its answer.
use Rattle.std.specs.Prelude.{◌≡◌, Bool, false, true, cond, ◌&&◌, List, ℕ, zero, suc, ◌-◌, ◌≤◌, ◌^◌, eqb, ltb, ℤ, pos, negsuc, length, Option, Some, None}
use Rattle.io.specs.Counts.{clamp_len}
use Rattle.coming.specs.declared.Came.{Came}
use Rattle.coming.specs.declared.Came.TheVariants.{Bytes, Nothing, Interrupted, Failed}
use Rattle.coming.specs.declared.hearing.Hearing.{Hearing}
use Rattle.coming.specs.declared.output.Sent.{Sent}

-- errno where a signal came before a byte was moved: EINTR
unfoldable pub interrupted : ℤ → Bool
interrupted (pos n) = eqb n 4
interrupted (negsuc n) = false

-- a number of calls that no run uses up; a loop has to end
abbrev pub MOST : ℕ
MOST = 2 ^ 64 - 1

-- by the answer and errno: so many bytes, none, or -1
unfoldable pub came_to : (got error : ℤ) → Came
came_to (pos zero) error = Nothing
came_to (pos (suc n)) error = Bytes
came_to (negsuc n) error = cond (interrupted error) Interrupted Failed

-- a call follows one that moved bytes, where there is more, and one that was interrupted; none follows the end or a failure
abbrev pub follows : Came → (more : Bool) → Bool
follows Bytes more = more
follows Nothing more = false
follows Interrupted more = true
follows Failed more = false

-- and none follows as many calls as no run uses up
unfoldable pub goes_on : Came → (more : Bool) (calls : ℕ) → Bool
goes_on came more calls = ltb calls MOST && follows came more

-- the most bytes that an answer tells of
abbrev pub MOST_BYTES : ℕ
MOST_BYTES = 2 ^ 63 - 1

-- errno of an error of std's, from its number: 5, an input or output error, where it has none
abbrev pub number_of : Option ℤ → ℤ
number_of None = pos 5
number_of (Some n) = n

-- what is made of a read's answer: what it came to, and how many bytes of the buffer it brought
pub record Heard (got error : ℤ) (input : List ℕ) (r : Hearing) : Type 0 where
  pub came : r.came ≡ came_to got error
  pub count : r.count ≡ clamp_len got (length input)
  pub within : r.count ≤ length input

-- writing stops only where all bytes are taken, at a write that takes none, or after as many writes as no run uses up
pub record Sends (bytes : List ℕ) (r : Sent) : Type 0 where
  pub within : r.count ≤ length bytes
  pub stops : goes_on r.came (ltb r.count (length bytes)) r.writes ≡ false
