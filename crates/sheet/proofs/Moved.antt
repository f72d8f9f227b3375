-- A slate with its counters moved, by a step back or a step forward: no rule, no mark and no band moves, so that it stands for the record with
-- the counters moved, and is held again. Assumes nothing.
use mathlib.Core.Path.{◌≡◌, refl, sym, subst}
use mathlib.Core.List.{List}
use Prim.Native.Nat.{ℕ}
use lib.ListN.{take}
use Rattle.rule.specs.declared.bits.Fixed.{Fixed}
use Rattle.search.specs.declared.verdict.Kept.{Kept}
use Rattle.search.specs.verdict.Kept.{kept}
use Rattle.search.specs.rows.route.Rows.{rules_in}
use Rattle.sheet.specs.declared.slate.Head.{Head}
use Rattle.sheet.specs.slate.route.Held.{Beside, Held}
use Rattle.sheet.specs.slate.stepping.route.Steps.{moved_head}
use Rattle.sheet.specs.route.Held.{packed}
use Rattle.sheet.specs.route.Stands.{Standing}
use Rattle.sheet.proofs.Fresh.{moved}
use Rattle.sheet.proofs.Holding.{still_held}

module _ {h : Head} {rows : List (List ℕ)} {marks : List ℕ} (held : Held h rows marks) (n m v : ℕ) (q : Standing (moved (packed h rows marks) n m v)) {k : Kept} {f : Fixed}
    (beside : Beside (moved_head h n m v k f) rows) (found : k ≡ kept h.opening.width (take n (rules_in rows))) where
  pub moved_record : moved (packed h rows marks) n m v ≡ packed (moved_head h n m v k f) rows marks
  unfolding packed
  moved_record =
      λ i. record {
        width = h.opening.width;
        rules = rules_in rows;
        count = n;
        marks = marks;
        marked = m;
        kept = sym found i;
        given = h.counts.given;
        waiting = v;
        edition = h.opening.edition;
      }

  pub moved_held : Held (moved_head h n m v k f) rows marks
  moved_held = still_held (subst Standing moved_record q) refl held.room beside
