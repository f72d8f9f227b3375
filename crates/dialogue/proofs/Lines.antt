-- A line is read at the width of the sheet that is open, and at the widest where none is; and no second outcome satisfies what hearing it
-- promises. Assumes nothing.
use mathlib.Core.Path.{◌≡◌, refl, sym, ap, ap₂, subst, ◌∙◌}
use mathlib.Core.List.{List}
use Prim.Native.Nat.{ℕ}
use borrow.Author.Tests.{le-leb, le-ltb}
use Rattle.word.specs.Word.{IsWidth}
use Rattle.word.specs.line_width.Width.{WIDEST, reading_at}
use Rattle.line.specs.declared.Line.{Line}
use Rattle.dialogue.specs.saying.Says.{Lent}
use Rattle.dialogue.specs.declared.Dialogue.{Dialogue}
use Rattle.dialogue.specs.declared.upshot.Response.{Response}
use Rattle.dialogue.specs.declared.Hearing.{Hearing}
use Rattle.dialogue.specs.upshot.Upshot.{Upshot}
use Rattle.dialogue.specs.Hears.{Hears}
use Rattle.dialogue.specs.Takes.{Takes, dialogue_of, taken}
use Rattle.dialogue.proofs.Unique.{takes_unique}

pub read_at_width : (w : ℕ) → IsWidth w → reading_at w ≡ w
unfolding reading_at
read_at_width w i = rw (le-ltb w 1 i.low, le-leb w WIDEST i.high)

pub read_at_widest : reading_at 0 ≡ WIDEST
unfolding reading_at
read_at_widest = refl

abbrev hearing : Line → Response → Hearing
hearing l a = record { line = l; response = a }

module _ (d : Dialogue) (text : List ℕ) (b b₁ b₂ : Lent) (e₁ e₂ : Dialogue) (r₁ r₂ : Hearing) where
  pub hears_unique : Hears d text b b₁ e₁ r₁ → Hears d text b b₂ e₂ r₂ → (e₁ ≡ e₂) × (r₁ ≡ r₂) × (b₁ ≡ b₂)
  hears_unique p q =
      let same : r₁.line ≡ r₂.line = p.line ∙ sym q.line in
      let t : Takes d r₂.line.statement b b₁ (taken e₁ r₁.response) = subst (λ (l : Line). Takes d l.statement b b₁ (taken e₁ r₁.response)) same p.takes in
      let u = takes_unique d r₂.line.statement b b₁ b₂ (taken e₁ r₁.response) (taken e₂ r₂.response) t q.takes in
      (ap dialogue_of u.0, ap₂ hearing same (ap Upshot.response u.0), u.1)
