-- What taking a statement does: what the statement says, and nothing after a mistake or a refusal.
use Rattle.std.specs.Prelude.{◌≡◌, true, false}
use Rattle.line.specs.declared.Statement.{Statement}
use Rattle.dialogue.specs.declared.upshot.Response.{Response}
use Rattle.dialogue.specs.declared.upshot.Response.TheVariants.{Silent}
use Rattle.dialogue.specs.upshot.Upshot.{Upshot, stops, upshot}
use Rattle.dialogue.specs.saying.Says.{Lent, Says}
use Rattle.dialogue.specs.declared.Dialogue.{Dialogue}

-- the dialogue after a statement, with what the statement is answered, as what it came to; and that dialogue
abbrev pub taken : Dialogue → Response → Upshot
taken d a = upshot d.sheet d.stopped a

abbrev pub dialogue_of : Upshot → Dialogue
dialogue_of u = record { sheet = u.sheet; stopped = u.stopped }

-- What a statement does, where nothing stopped before it; after that it does nothing, and is answered nothing.
unfoldable pub Takes : Dialogue → Statement → (b b' : Lent) → Upshot → Type 0
Takes d st b b' u =
    elim d.stopped [ true ↦ (u ≡ stops d.sheet Silent) × (b' ≡ b) | false ↦ Says d.sheet st b b' u ]
