-- A call with one number of its own that is refused on its own ground, as the search for its goal wants it: nothing comes before the table. Assumes
-- nothing.
use mathlib.Core.Path.{◌≡◌, sym, ◌∙◌}
use mathlib.Core.List.{List}
use Prim.Native.Nat.{ℕ, ◌≤◌}
use Rattle.page.specs.Page.{MARKS}
use Rattle.sheet.specs.declared.slate.Head.{Head}
use Rattle.sheet.specs.slate.route.Numbers.{before}
use Rattle.sheet.specs.slate.slate_calls.route.Done.{Marks}
use Rattle.sheet.specs.slate.slate_calls.route.Done.Marks.{unmarked}
use Rattle.sheet.specs.slate.stepping.route.Steps.{Backs, Forwards}
use Rattle.sheet.specs.slate.stepping.route.Steps.Backs.{stays}
use Rattle.sheet.specs.slate.stepping.route.Steps.Forwards.{remains}
use Rattle.sheet.specs.slate.stepping.route.Steps.Refused.{own_ground}

module _ {h : Head} {rows : List (List ℕ)} {marks : List ℕ} {n : ℕ} (e : n ≡ before h.stands h.opening.width) (z : n ≡ 0) where
  pub no_mark : h.counts.marked ≡ 0 → Backs h rows marks 8 h
  no_mark g = stays (own_ground (sym e ∙ z) g)

  pub none_waits : h.counts.waiting ≡ 0 → Forwards h rows marks 12 h
  none_waits g = remains (own_ground (sym e ∙ z) g)

  pub no_place : MARKS ≤ h.counts.marked → Marks h rows marks 7 h rows marks
  no_place g = unmarked (own_ground (sym e ∙ z) g)
