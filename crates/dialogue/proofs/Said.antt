-- What taking a statement does, from whether the dialogue stopped, which only picks a row. Assumes nothing.
use mathlib.Core.Path.{◌≡◌, sym, subst}
use mathlib.Core.Bool.{Bool, true, false}
use Rattle.line.specs.declared.Statement.{Statement}
use Rattle.dialogue.specs.declared.upshot.Response.TheVariants.{Silent}
use Rattle.dialogue.specs.upshot.Upshot.{Upshot, stops}
use Rattle.dialogue.specs.saying.Says.{Lent, Says}
use Rattle.dialogue.specs.declared.Dialogue.{Dialogue}
use Rattle.dialogue.specs.Takes.{Takes}

module _ (d : Dialogue) (st : Statement) (b b' : Lent) (u : Upshot) where
  abbrev So : Bool → Type 0
  So v =
      elim v [ true ↦ (u ≡ stops d.sheet Silent) × (b' ≡ b) | false ↦ Says d.sheet st b b' u ]

  -- after a stop
  pub stopped_takes : d.stopped ≡ true → (u ≡ stops d.sheet Silent) × (b' ≡ b) → Takes d st b b' u
  unfolding Takes
  stopped_takes q p = subst So (sym q) p

  pub takes_silent : d.stopped ≡ true → Takes d st b b' u → (u ≡ stops d.sheet Silent) × (b' ≡ b)
  unfolding Takes
  takes_silent q p = subst So q p

  -- before one
  pub going_takes : d.stopped ≡ false → {v : Upshot} → u ≡ v → Says d.sheet st b b' v → Takes d st b b' u
  unfolding Takes
  going_takes q e p = subst So (sym q) (subst (λ (v : Upshot). Says d.sheet st b b' v) (sym e) p)

  pub takes_says : d.stopped ≡ false → Takes d st b b' u → Says d.sheet st b b' u
  unfolding Takes
  takes_says q p = subst So q p
