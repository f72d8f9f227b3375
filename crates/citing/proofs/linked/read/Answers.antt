-- `read` meets its contract: the tests pick the edition. Assumes nothing.
use mathlib.Core.Path.{◌≡◌, sym, ap, ◌∙◌}
use mathlib.Core.Bool.{true, false}
use mathlib.Core.List.{List}
use Prim.Native.Nat.{ℕ}
use lib.ListN.{take}
use lib.Seq.{length-take-le}
use Rattle.word.specs.declared.Edition.TheVariants.{New, Old}
use Rattle.frame.specs.fields.Fields.{WORD}
use Rattle.std.specs.Prelude.{Some}
use Rattle.citing.specs.linked.Linked.{bare, bare_end, is_link, link_in, link_of}
use Rattle.citing.proofs.linked.Parts.{length_of}
use Rattle.citing.proofs.linked.read.Goals as goal

-- the line without a byte 13 at its end is the part that is looked at
part : (l : List ℕ) (n : ℕ) → n ≡ bare_end l → take n l ≡ bare l
unfolding bare
part l n e = ap (λ (k : ℕ). take k l) e

pub slice_bounds-bare-end : goal.slice_bounds-bare-end
slice_bounds-bare-end c = sym (length-take-le _ _ c.bare_end-end.ensures.1)

pub link_of-requires : goal.link_of-requires
link_of-requires c = length_of Old _ (sym c.is_link.ensures ∙ c.if-is_link.true)

pub returns-then-is_link : goal.returns-then-is_link
unfolding link_in
returns-then-is_link c =
    let b = part c.args.line.now _ c.bare_end-end.ensures.0 in
    let o : is_link Old (bare c.args.line.now) ≡ true = ap (is_link Old) (sym b) ∙ sym c.is_link.ensures ∙ c.if-is_link.true in
    rw o (ap Some (c.link_of.ensures ∙ ap (link_of (WORD Old)) b))

pub link_of-requires-then-is_link-2 : goal.link_of-requires-then-is_link-2
link_of-requires-then-is_link-2 c = length_of New _ (sym c.is_link-2.ensures ∙ c.if-is_link-2.true)

pub returns-then-is_link-2 : goal.returns-then-is_link-2
unfolding link_in
returns-then-is_link-2 c =
    let b = part c.args.line.now _ c.bare_end-end.ensures.0 in
    let o : is_link Old (bare c.args.line.now) ≡ false = ap (is_link Old) (sym b) ∙ sym c.is_link.ensures ∙ c.if-is_link.false in
    let n : is_link New (bare c.args.line.now) ≡ true = ap (is_link New) (sym b) ∙ sym c.is_link-2.ensures ∙ c.if-is_link-2.true in
    rw (o, n) (ap Some (c.link_of-then-is_link-2.ensures ∙ ap (link_of (WORD New)) b))

pub returns : goal.returns
unfolding link_in
returns c =
    let b = part c.args.line.now _ c.bare_end-end.ensures.0 in
    let o : is_link Old (bare c.args.line.now) ≡ false = ap (is_link Old) (sym b) ∙ sym c.is_link.ensures ∙ c.if-is_link.false in
    let n : is_link New (bare c.args.line.now) ≡ false = ap (is_link New) (sym b) ∙ sym c.is_link-2.ensures ∙ c.if-is_link-2.false in
    rw (o, n)
