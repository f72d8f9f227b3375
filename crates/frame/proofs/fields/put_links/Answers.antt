-- `put_links` meets its contract. The loop's invariant: the links passed are written. Assumes nothing.
use mathlib.Core.Path.{◌≡◌, refl, sym, ap, ◌∙◌}
use Prim.Native.Nat.{◌+◌, ◌-◌, ◌*◌, ◌≤◌}
use native.Mathlib.Numerals.{add-one}
use native.Mathlib.Omega.{arith}
use lib.ListN.{get_or, length}
use Rattle.chain.specs.declared.Link.{Link}
use Rattle.frame.specs.fields.Answers.{LINE, answer_bytes, line_bytes, link_line, link_lines}
use Rattle.frame.proofs.fields.Lines.{put_none, put_on, length_link, links_next}
use Rattle.frame.proofs.fields.put_links.Goals.{After-link_line}
use Rattle.frame.proofs.fields.put_links.Goals as goal

-- the line is that of the link at its place
line : (c : After-link_line) → c.link_line.result ≡ link_line c.args.edition (get_or c.args.chain.now (3 * c.loop-i.i) 0) (get_or c.args.chain.now (3 * c.loop-i.i + 1) 0) (get_or c.args.chain.now (3 * c.loop-i.i + 2) 0)
line c =
    c.link_line.ensures ∙ ap (λ (l : Link). link_line c.args.edition l.from l.to l.reason) c.link_from-link.ensures

-- and no longer than a line may be
line-short : (c : After-link_line) → length (line_bytes c.link_line.result) ≤ LINE
line-short c = rw (line c) (length_link _ _ _ _)

pub loop-i-init : goal.loop-i-init
unfolding link_lines answer_bytes
loop-i-init c = (omega arith, omega arith, refl, put_none _ _ (omega arith))

pub put_line-end-requires : goal.put_line-end-requires
put_line-end-requires c =
    omega (arith, line-short (goal.at.put_line-end-requires c).After-link_line)

pub loop-i-smaller : goal.loop-i-smaller
loop-i-smaller c = omega arith

pub loop-i-preserved : goal.loop-i-preserved
unfolding link_lines answer_bytes
loop-i-preserved c =
    let put = rw (line (goal.at.loop-i-preserved c).After-link_line) at c.put_line-end.ensures in (
      omega arith,
      omega (arith, c.put_line-end.ensures.ends, line-short (goal.at.loop-i-preserved c).After-link_line),
      c.put_line-end.auto.out ∙ c.loop-i.invariant.2,
      rw (add-one c.loop-i.i, links_next _ c.loop-i.i) (put_on c.loop-i.invariant.3 put),
    )

pub shape_of-out : goal.shape_of-out
shape_of-out c = c.loop-i.invariant.2

pub returns : goal.returns
returns c =
    let e : c.loop-i.i ≡ c.args.n = omega arith in
    rw (sym e) c.loop-i.invariant.3
