-- `next` meets its contract. The loop's invariant: what stands from the place on is what the letters left give after the token. Assumes nothing.
use mathlib.Core.Path.{◌≡◌, sym, ap, ap₂, ◌∙◌}
use mathlib.Core.Bool.{true, false}
use Prim.Native.Nat.{ℕ}
use native.Mathlib.Numerals.{add-one}
use native.Mathlib.Omega.{arith}
use lib.ListN.{drop, drop_of_length-le, get_or}
use lib.Seq.{drop-cons}
use Rattle.line.specs.declared.token.Token.{Token}
use Rattle.line.specs.piece.Piece.{ends, word_at, word_from}
use Rattle.line.proofs.piece.next.Goals as goal

pub loop-i-init : goal.loop-i-init
unfolding word_at
loop-i-init c =
    ap (λ (t : Token). word_from t c.args.at (drop c.args.at c.args.line.now)) (sym c.none-token.ensures)

pub returns-then-ends : goal.returns-then-ends
unfolding word_from
returns-then-ends c =
    let e : ends c.loop-i.token (get_or c.args.line.now c.loop-i.i 0) ≡ true = sym c.ends.ensures ∙ c.if-ends.true in
    c.piece_of.ensures ∙ sym (c.loop-i.invariant ∙ ap (word_from c.loop-i.token c.loop-i.i) (drop-cons c.args.line.now c.loop-i.i 0 (omega arith)) ∙ rw e)

pub loop-i-preserved : goal.loop-i-preserved
unfolding word_from
loop-i-preserved c =
    let e : ends c.loop-i.token (get_or c.args.line.now c.loop-i.i 0) ≡ false = sym c.ends.ensures ∙ c.if-ends.false in
    c.loop-i.invariant
    ∙ ap (word_from c.loop-i.token c.loop-i.i) (drop-cons c.args.line.now c.loop-i.i 0 (omega arith))
    ∙ rw e (ap₂ (λ (t : Token) (i : ℕ). word_from t i (drop i c.args.line.now)) (sym c.grown-token.ensures) (sym (add-one c.loop-i.i)))

pub returns : goal.returns
unfolding word_from
returns c =
    c.piece_of-2.ensures ∙ sym (c.loop-i.invariant ∙ ap (word_from c.loop-i.token c.loop-i.i) (drop_of_length-le c.args.line.now {i = c.loop-i.i} (omega arith)))
