-- `lay_out` meets its contract. The loop's invariant: the rules passed are laid, and the others are as they were. Assumes nothing.
use mathlib.Core.Path.{refl, sym, ap, ap₂, ◌∙◌}
use mathlib.Core.List.{List, map, ◌++◌}
use Prim.Native.Nat.{ℕ, ◌-◌}
use native.Mathlib.Numerals.{add-one}
use native.Mathlib.Omega.{arith}
use lib.ListN.{get_or-map, drop, length, length-map, set, take}
use Rattle.rule.specs.accept.Accept.{no_rule}
use Rattle.search.specs.rows.route.Rows.{bare_row}
use Rattle.search.proofs.rows.Copies.{all_copied, copied}
use Rattle.search.proofs.laying.packing.lay_out.Goals as goal

pub loop-i-init : goal.loop-i-init
loop-i-init c = (omega arith, refl)

pub put-requires : goal.put-requires
put-requires c = omega arith

pub loop-i-smaller : goal.loop-i-smaller
loop-i-smaller c = omega arith

pub loop-i-preserved : goal.loop-i-preserved
unfolding bare_row
loop-i-preserved c =
    let bare = map bare_row c.args.packed in
    let size = length-map c.args.packed bare_row in (
      omega arith,
      c.put.ensures
          ∙ ap₂ (λ (x : List (List ℕ)) (row : List ℕ). set x c.loop-i.i row) c.loop-i.invariant.1 (sym (get_or-map bare_row c.args.packed c.loop-i.i no_rule))
          ∙ copied bare c.args.rows.now c.loop-i.i (bare_row no_rule) (omega arith) (omega arith)
          ∙ ap (λ (j : ℕ). take j bare ++ drop j c.args.rows.now) (sym (add-one c.loop-i.i)),
    )

pub returns : goal.returns
returns c =
    let size = length-map c.args.packed bare_row in
    let all = c.loop-i.invariant.1 ∙ all_copied (map bare_row c.args.packed) c.args.rows.now c.loop-i.i (omega arith) (omega arith) in
    (all, omega (arith, ap length all))
