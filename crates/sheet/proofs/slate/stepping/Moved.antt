-- A slate with fewer or more of its rules in force, after a step back or a step forward: no rule, no band and no note moves, so that the
-- first bands are those of the rules then in force. Assumes nothing.
use mathlib.Core.Path.{◌≡◌, refl}
use mathlib.Core.List.{List}
use Prim.Native.Nat.{ℕ, ◌≤◌}
use native.Mathlib.Omega.{arith}
use lib.ListN.{take}
use Rattle.rule.specs.Meaning.{AllLawful}
use Rattle.rule.specs.declared.bits.Fixed.{Fixed}
use Rattle.rule.specs.bits.route.Fixed.{fixed_bits}
use Rattle.search.specs.rows.route.Rows.{bands_in, rules_in}
use Rattle.search.specs.declared.verdict.Kept.{Kept}
use Rattle.search.specs.verdict.route.OnBands.{Bounds}
use Rattle.sheet.specs.declared.slate.Head.{Head}
use Rattle.sheet.specs.slate.route.Held.{Beside, Drawn, Held}
use Rattle.sheet.specs.slate.route.Numbers.{before}
use Rattle.sheet.proofs.slate.Holding.{beside_so, first_drawn, rules_places, shape_so, width_so}
use Rattle.sheet.proofs.slate.Shaped.{first_lawful}
use Rattle.sheet.specs.slate.stepping.route.Steps.{moved_head}
use Rattle.sheet.specs.slate.stepping.route.Found.{Sought}

module _ {h : Head} {rows : List (List ℕ)} {marks : List ℕ} (held : Held h rows marks) (e : before h.stands h.opening.width ≡ 0) (n : ℕ)
    (low : n ≤ h.counts.given) where
  abbrev w : ℕ
  w = h.opening.width

  pub moved_lawful : AllLawful w (take n (rules_in rows))
  moved_lawful = first_lawful h (rules_in rows) marks (rules_places held.room) held.room.marks_places (shape_so held e) n low

  pub moved_drawn : Drawn w n n (rules_in rows) (bands_in rows) (fixed_bits (take n (rules_in rows)))
  moved_drawn = first_drawn w h.counts.given (rules_in rows) (bands_in rows) (beside_so held e).drawn.own n low refl

  -- what is kept of them may be looked for
  pub moved_sought : (k : Kept) → Bounds w (take n (bands_in rows)) (fixed_bits (take n (rules_in rows))) k → Sought w n rows k
  moved_sought k bounds =
      record {
        width = width_so held e;
        places = held.room.rows_places;
        few = omega (arith, low, (shape_so held e).given_high);
        lawful = moved_lawful;
        drawn = moved_drawn;
        noted = (beside_so held e).noted.true_so n low;
        bounds = bounds;
      }

  pub moved_beside : (m v : ℕ) (k : Kept) (f : Fixed) → f ≡ fixed_bits (take n (rules_in rows)) → Beside (moved_head h n m v k f) rows
  moved_beside m v k f bits = record { drawn = record { own = (beside_so held e).drawn.own; bits = bits }; noted = (beside_so held e).noted }
