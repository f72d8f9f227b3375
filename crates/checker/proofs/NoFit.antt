-- "Yes must mean that no word fits": the links cover every word, and each word that a link covers fails a rule in force.
-- Assumes nothing.
use mathlib.Core.Path.{◌≡◌}
use mathlib.Core.Bool.{true, false, not}
use mathlib.Core.List.{List}
use Prim.Native.Nat.{ℕ, ◌%◌, ◌≤◌}
use native.Mathlib.Omega.{arith}
use lib.Dec.{eqb}
use lib.ListN.{length, take}
use Rattle.word.specs.Word.{top}
use Rattle.word.proofs.Tests.{both_pass}
use Rattle.rule.specs.Meaning.{fits}
use Rattle.chain.proofs.Cover.{covers_no_fit}
use Rattle.sheet.specs.declared.Sheet.{Sheet}
use Rattle.sheet.specs.route.Shape.{is_sheet}
use Rattle.checker.specs.covering.Check.{links_in, shown, shown_by}
use Rattle.checker.specs.Check.{accepts}
use Rattle.checker.proofs.covering.Covering.{shown_covers}

pub yes_no_fit : (s : Sheet) (ns : List ℕ) → accepts s ns ≡ true
    → (x : ℕ) → x ≤ top s.width → fits s.width (take s.count s.rules) x ≡ false
unfolding accepts shown_by
yes_no_fit s ns e x h =
    let w = s.width in
    let rs = take s.count s.rules in
    let sheet = both_pass (is_sheet s) _ e in
    let opened = both_pass (not (eqb w 0)) _ sheet.1 in
    let threes = both_pass (eqb (length ns % 3) 0) (shown w rs (links_in ns)) opened.1 in
    covers_no_fit w rs (shown_covers w rs (links_in ns) threes.1) x (omega arith) h
