-- `has_name` meets its contract. The loop's invariant: the texts are one just where what is left of them is. Assumes nothing.
use mathlib.Core.Path.{◌≡◌, refl, sym, ap, ◌∙◌}
use native.Mathlib.Numerals.{add-one}
use native.Mathlib.Omega.{arith}
use lib.Dec.{ltb}
use Rattle.naming.specs.Names.{name_in}
use Rattle.naming.specs.by_name.Which.{has_name}
use Rattle.naming.proofs.by_name.Rows.{alike_all, alike_on, byte_in, differ_on, unlike}
use Rattle.naming.proofs.by_name.has_name.Goals as goal

pub returns-then-n-name : goal.returns-then-n-name
unfolding has_name
returns-then-n-name c =
    rw (unlike (name_in c.args.row.now) c.args.name.now (λ e. c.if-n-name.true (c.length-n.ensures ∙ e)))

pub loop-i-init : goal.loop-i-init
loop-i-init c = (omega arith, c.length-n.ensures, omega arith, refl)

pub bounds-row-i : goal.bounds-row-i
bounds-row-i c =
    (byte_in c.args.row.now c.loop-i.i (omega arith)).1

pub bounds-name-i : goal.bounds-name-i
bounds-name-i c = omega arith

pub returns-then-row-i : goal.returns-then-row-i
unfolding has_name
returns-then-row-i c =
    let b = byte_in c.args.row.now c.loop-i.i (omega arith) in
    let d = differ_on (name_in c.args.row.now) c.args.name.now c.loop-i.i (omega arith) (omega arith) (λ e. c.if-row-i.true (sym b.0 ∙ e)) in
    rw (c.loop-i.invariant.3 ∙ d)

pub loop-i-preserved : goal.loop-i-preserved
loop-i-preserved c =
    let b = byte_in c.args.row.now c.loop-i.i (omega arith) in
    let d = alike_on (name_in c.args.row.now) c.args.name.now c.loop-i.i (omega arith) (omega arith) (b.0 ∙ c.if-row-i.false) in
    (omega arith, c.loop-i.invariant.1, c.loop-i.invariant.2, rw (add-one c.loop-i.i) (c.loop-i.invariant.3 ∙ d))

pub returns : goal.returns
unfolding has_name
returns c =
    let e : c.loop-i.i ≡ c.length-n.result = omega arith in
    let d = alike_all (name_in c.args.row.now) c.args.name.now c.loop-i.i (omega arith) (omega arith) in
    rw (c.loop-i.invariant.3 ∙ d) (ap (ltb 0) c.loop-i.invariant.2)
