-- What a statement comes to: it goes on, or it stops; by a call's number it goes on with the call's answer, or stops at the refusal.
use Rattle.std.specs.Prelude.{Bool, true, false, cond, ℕ, eqb, Result, Ok, Err}
use Rattle.sheet.specs.declared.Sheet.{Sheet}
use Rattle.dialogue.specs.declared.upshot.Response.{Response}
use Rattle.dialogue.specs.declared.upshot.Response.TheVariants.{Mistaken, Refused}
use Rattle.dialogue.specs.declared.upshot.Stop.{Stop}
use Rattle.dialogue.specs.declared.upshot.Stop.TheVariants as at

-- the sheet after a statement, whether a mistake or a refusal came, and what the statement is answered
pub record Upshot : Type 0 where
  pub sheet : Sheet
  pub stopped : Bool
  pub response : Response

abbrev pub upshot : Sheet → Bool → Response → Upshot
upshot s b a = record { sheet = s; stopped = b; response = a }

-- it goes on, and it stops
abbrev pub goes : Sheet → Response → Upshot
goes s a = upshot s false a

abbrev pub stops : Sheet → Response → Upshot
stops s a = upshot s true a

-- a call's number: it goes on with the call's answer, or stops at the refusal
unfoldable pub by_number : ℕ → Sheet → Response → Upshot
by_number k s a = cond (eqb k 0) (goes s a) (stops s (Refused k))

-- what a stop is answered
abbrev pub answer_to : Stop → Response
answer_to (at.Refused k) = Refused k
answer_to (at.Mistaken m) = Mistaken m

-- the sheet that is left, and what was said of the statement
abbrev pub upshot_of : Sheet → Result Response Stop → Upshot
upshot_of s (Ok a) = goes s a
upshot_of s (Err e) = stops s (answer_to e)
