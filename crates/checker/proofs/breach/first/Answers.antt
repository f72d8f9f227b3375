-- `first` meets its contract. The loop's invariant: what is found of all links is what is found of those from this place on, where so many
-- stand before it and the largest end so far is known. Assumes nothing.
use mathlib.Core.Path.{◌≡◌, refl, sym, ap, ◌∙◌}
use mathlib.Core.List.{List, []}
use Prim.Native.Nat.{ℕ, suc, max, ◌+◌, ◌*◌, ◌/◌, ◌≤◌}
use native.Mathlib.Omega.{arith}
use lib.ListN.{get_or, length}
use Rattle.std.specs.Prelude.{Err}
use Rattle.std.proofs.lemmas.Result.{err_from_is_err_and}
use Rattle.word.specs.Word.{top}
use Rattle.chain.specs.declared.Link.{Link}
use Rattle.chain.specs.Links.{link_from}
use Rattle.checker.proofs.breach.Exactly.{in_place}
use Rattle.checker.proofs.breach.Walk.{at_first, at_next, at_top, below_top, moved, placed, reasoned, three_link, wrong_place, wrong_reason}
use Rattle.checker.proofs.breach.first.Goals.{After-link_from-link, In-loop-number}
use Rattle.checker.proofs.breach.first.Goals as goal

-- there is a whole link at this place
room : (b : In-loop-number) → 3 * b.loop-number.number + 3 ≤ length b.args.links.now
room b = omega (arith, b.loop-number-test.true, b.as_chunks.ensures.front_len)

-- the link that is read
abbrev link : In-loop-number → Link
link b = link_from b.args.links.now (3 * b.loop-number.number)

read : (f : After-link_from-link) → f.link_from-link.result ≡ link_from f.args.links.now (3 * f.loop-number.number)
read f =
    f.link_from-link.ensures
    ∙ ap (λ (ns : List (List ℕ)). link_from (get_or ns f.loop-number.number []) 0) f.as_chunks.ensures.front
    ∙ three_link (length f.args.links.now / 3) f.loop-number.number f.args.links.now [] (omega (arith, f.loop-number-test.true, f.as_chunks.ensures.front_len)) (omega arith)

pub loop-number-init : goal.loop-number-init
loop-number-init c = at_first _ _ _

pub returns-in_err-lies : goal.returns-in_err-lies
returns-in_err-lies c =
    let p = err_from_is_err_and c.from_residual.result c.from_residual.ensures.1 in
    let l = read (goal.at.returns-in_err-lies c).After-link_from-link in
    let found = placed _ _ _ _ _ _ c.in_err-lies.ensures c.top-top.ensures l in
    p.1 ∙ ap Err p.2 ∙ wrong_place _ _ _ _ _ _ c.loop-number.invariant (room (goal.at.returns-in_err-lies c).In-loop-number) _ found

pub shows-requires-clause-tidy : goal.shows-requires-clause-tidy
shows-requires-clause-tidy c =
    let found = placed _ (top c.args.force.width.bits) _ _ _ c.link_from-link.result c.in_ok-lies.ensures c.top-top.ensures refl in
    let o = in_place _ _ _ _ found in
    (c.requires.tidy.0, o.0, o.1)

pub returns-in_err-shows : goal.returns-in_err-shows
returns-in_err-shows c =
    let p = err_from_is_err_and c.from_residual-in_err-shows.result c.from_residual-in_err-shows.ensures.1 in
    let l = read (goal.at.returns-in_err-shows c).After-link_from-link in
    let b = (goal.at.returns-in_err-shows c).In-loop-number in
    let lies = placed _ _ _ _ _ _ c.in_ok-lies.ensures c.top-top.ensures l in
    let found = reasoned _ _ _ _ _ c.in_err-shows.ensures l in
    p.1 ∙ ap Err p.2 ∙ wrong_reason _ _ _ _ _ _ c.loop-number.invariant (room b) lies _ found

pub loop-number-preserved : goal.loop-number-preserved
loop-number-preserved c =
    let l = read (goal.at.loop-number-preserved c).After-link_from-link in
    let b = (goal.at.loop-number-preserved c).In-loop-number in
    let lies = placed _ _ _ _ _ _ c.in_ok-lies.ensures c.top-top.ensures l in
    let found = reasoned _ _ _ _ _ c.in_ok-shows.ensures l in
    let e = ap (λ (k : Link). max c.loop-number.end k.to) (sym l) ∙ sym c.max-end.ensures in
    let n : suc c.loop-number.number ≡ c.loop-number.number + 1 = omega arith in
    let k : 3 * c.loop-number.number + 3 ≡ 3 * (c.loop-number.number + 1) = omega arith in
    let on = at_next _ _ _ _ _ _ c.loop-number.invariant (room b) lies found in
    moved _ _ _ n k e on

pub returns-then-end-top : goal.returns-then-end-top
returns-then-end-top c =
    at_top _ _ _ _ _ _ c.loop-number.invariant (omega (arith, c.loop-number-test.false, c.loop-number.auto, c.as_chunks.ensures.front_len, c.requires.tidy.1)) (omega (arith, c.if-end-top.true, c.top-top.ensures))

pub returns-else-end-top : goal.returns-else-end-top
returns-else-end-top c =
    below_top _ _ _ _ _ _ c.loop-number.invariant (omega (arith, c.loop-number-test.false, c.loop-number.auto, c.as_chunks.ensures.front_len, c.requires.tidy.1)) (λ t. omega (arith, t, c.if-end-top.false, c.top-top.ensures))
