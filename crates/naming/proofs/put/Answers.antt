-- `put` meets its contract. The loop's invariant: the rows left, put from here on over what stands, are all rows put over what stood. Assumes
-- nothing.
use mathlib.Core.Path.{◌≡◌, sym, ap, ◌∙◌}
use Prim.Native.Nat.{ℕ, suc, ◌+◌, ◌-◌}
use native.Mathlib.Nat.{sub-zero}
use native.Mathlib.Numerals.{add-one}
use native.Mathlib.Omega.{arith}
use Rattle.naming.specs.Names.{put}
use Rattle.naming.proofs.Rows.{put_none, put_nothing, put_one}
use Rattle.naming.proofs.put.Goals.{else-at-lt-LIMIT, then-at-lt-LIMIT}
use Rattle.naming.proofs.put.Goals as goal

pub loop-i-init : goal.loop-i-init
loop-i-init c = (omega arith, ap (λ (k : ℕ). put c.args.row k c.args.from c.args.names.now) (sub-zero c.args.times))

pub loop-i-preserved : goal.loop-i-preserved
loop-i-preserved c =
    let n = c.args.times - (c.loop-i.i + 1) in
    let e : c.args.times - c.loop-i.i ≡ suc n = omega arith in
    let done = rw e at c.loop-i.invariant.1 in (
      omega arith,
      elim c.if-at-lt-LIMIT.branch [ then-at-lt-LIMIT u ↦ rw (u.at-is, u.names-is, add-one c.loop-i.at) (sym (put_one c.args.row n c.loop-i.at c.loop-i.names (omega arith)) ∙ done) | else-at-lt-LIMIT u ↦ rw (u.at-is, u.names-is) (put_none c.args.row n c.loop-i.at c.loop-i.names (omega arith) ∙ sym (put_none c.args.row (suc n) c.loop-i.at c.loop-i.names (omega arith)) ∙ done) ],
    )

pub returns : goal.returns
returns c =
    let e : c.args.times - c.loop-i.i ≡ 0 = omega arith in
    sym (put_nothing c.args.row c.loop-i.at c.loop-i.names) ∙ rw e at c.loop-i.invariant.1
