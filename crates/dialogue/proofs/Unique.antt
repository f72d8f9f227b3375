-- No second outcome satisfies what taking a statement promises: no second one satisfies what the statement says. Assumes nothing.
use mathlib.Core.Path.{◌≡◌, sym, ◌∙◌}
use mathlib.Core.Bool.{Bool, true, false}
use Rattle.line.specs.declared.Statement.{Statement}
use Rattle.dialogue.specs.declared.upshot.Response.TheVariants.{Silent}
use Rattle.dialogue.specs.upshot.Upshot.{Upshot, stops}
use Rattle.dialogue.specs.saying.Says.{Lent, Says}
use Rattle.dialogue.proofs.saying.Unique.{says_unique}
use Rattle.dialogue.specs.declared.Dialogue.{Dialogue}
use Rattle.dialogue.specs.Takes.{Takes}

abbrev So : Dialogue → Statement → (b b' : Lent) → Upshot → Bool → Type 0
So d st b b' u v = elim v [ true ↦ (u ≡ stops d.sheet Silent) × (b' ≡ b) | false ↦ Says d.sheet st b b' u ]

pub takes_unique : (d : Dialogue) (st : Statement) (b b₁ b₂ : Lent) (r₁ r₂ : Upshot) → Takes d st b b₁ r₁ → Takes d st b b₂ r₂ → (r₁ ≡ r₂) × (b₁ ≡ b₂)
unfolding Takes
takes_unique d st b b₁ b₂ r₁ r₂ p q = go d.stopped p q
  where
    go : (v : Bool) → So d st b b₁ r₁ v → So d st b b₂ r₂ v → (r₁ ≡ r₂) × (b₁ ≡ b₂)
    go true p q = (p.0 ∙ sym q.0, p.1 ∙ sym q.1)
    go false p q = says_unique d.sheet b b₁ b₂ r₁ r₂ st p q
