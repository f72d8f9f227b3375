-- A slate opened where another lay: with no rule there is no band, and nothing is noted. Assumes nothing.
use mathlib.Core.Path.{refl}
use mathlib.Core.List.{List}
use Prim.Native.Nat.{ℕ, ◌≤◌}
use Rattle.rule.specs.bits.route.Fixed.{fixed_bits, fixed_from}
use Rattle.search.specs.declared.verdict.Kept.{Kept}
use Rattle.page.specs.declared.Opening.{Opening}
use Rattle.sheet.specs.slate.route.Held.{Beside}
use Rattle.sheet.proofs.slate.Noted.{nothing_noted}
use Rattle.sheet.specs.slate.slate_calls.route.Done.{new_head}

pub beside_opened : (g : Opening) → 1 ≤ g.width → (k : Kept) (rows : List (List ℕ)) → Beside (new_head g k) rows
unfolding fixed_bits fixed_from
beside_opened g low k rows = record { drawn = record { own = refl; bits = refl }; noted = nothing_noted g.width low rows }
