-- `write` meets its contract. The loop's invariant: the walk has come to p, whichever rules the bands and the bits are those
-- of; after the first link no run around p starts at 0; and where the bands are in order, those before the place hold p. The measure is the
-- words above p. Assumes nothing.
use mathlib.Core.Path.{◌≡◌, refl, sym, ap, ◌∙◌, subst}
use mathlib.Core.Bool.{true, false≢true}
use mathlib.Core.List.{List}
use Prim.Native.Nat.{ℕ, ◌+◌, ◌-◌, ◌*◌, ◌≤◌, ◌<◌}
use native.Mathlib.Omega.{arith}
use borrow.Author.Rules.{rules}
use lib.ListN.{length, length-map, take}
use lib.Seq.{length-take-le}
use Rattle.word.specs.Word.{top}
use Rattle.rule.specs.declared.Rule.{Rule}
use Rattle.rule.specs.declared.band.Band.{Band}
use Rattle.rule.specs.band.route.Band.{band_of}
use Rattle.rule.specs.bits.route.Fixed.{Tidy}
use Rattle.rule.proofs.bits.Joined.{fixed_tidy}
use Rattle.search.specs.rows.route.Bands.{Lie}
use Rattle.chain.specs.Links.{link_at}
use Rattle.chain.specs.route.OnBands.{furthest_band}
use Rattle.chain.proofs.Walk.{link_order, none_fits, own_link, walk_end, walk_on, walk_room, walk_start}
use Rattle.search.specs.rows.route.Rows.{bands_in}
use Rattle.search.specs.rows.route.OfRules.{OfLawful}
use Rattle.search.specs.verdict.Kept.{kept}
use Rattle.search.specs.order.route.Order.{InOrder}
use Rattle.chain.proofs.due.Walk.{begun_on, ready_on}
use Rattle.chain.proofs.linking.Found.{found_link, link_ends, reached}
use Rattle.chain.proofs.linking.write.Invariants.{Sorted}
use Rattle.chain.proofs.linking.write.Goals.{After-find-due, After-link_at-link, At-loop-count, Joined-count-eq-SHORT, else-count-eq-SHORT, then-count-eq-SHORT}
use Rattle.chain.proofs.linking.write.Goals as goal

-- the bands that lie in the rows, and rules that they are those of
abbrev lying : At-loop-count → List Band
lying l = bands_in l.args.rows.now

of_own : (l : At-loop-count) → OfLawful l.args.width.bits (take l.args.n (lying l)) l.args.fixed l.requires.of_lawful.0
of_own l = l.requires.of_lawful.1

none_own : (l : At-loop-count) → (kept l.args.width.bits l.requires.of_lawful.0).verdict ≡ 0
none_own l = l.requires.of_lawful.2

count : (l : At-loop-count) → length l.requires.of_lawful.0 ≡ l.args.n
count l =
    sym (length-map l.requires.of_lawful.0 (band_of l.args.width.bits))
    ∙ ap length (sym (of_own l).1.own)
    ∙ length-take-le l.args.n (lying l) (omega (arith, l.requires.lie.places, l.requires.lie.count))

word : (l : At-loop-count) → l.loop-count.p ≤ top l.args.width.bits
word l = omega arith

lie : (l : At-loop-count) → Lie (top l.args.width.bits) l.args.n (lying l)
lie l = l.requires.lie

-- where the bands are in order, sorted just now or before
in_order : (j : Joined-count-eq-SHORT) → j.if-count-eq-SHORT.sorted ≡ true → Sorted (top j.args.width.bits) j.args.n (bands_in j.args.rows.now) j.if-count-eq-SHORT.order j.if-count-eq-SHORT.next j.loop-count.p
in_order j e =
    let t = top j.args.width.bits in
    elim j.if-count-eq-SHORT.branch [
      | then-count-eq-SHORT a ↦ let first : j.if-count-eq-SHORT.next ≡ 0 = a.next-is in
          let many : 0 < j.loop-count.count = omega (arith, a.if-count-eq-SHORT.true) in (
            subst (λ (u : ℕ). InOrder u j.args.n (bands_in j.args.rows.now) j.if-count-eq-SHORT.order) j.top-top.ensures
                (subst (InOrder j.top-top.result j.args.n (bands_in j.args.rows.now)) (sym a.order-is) (a.lay-sorted.ensures (sym a.sorted-is ∙ e))),
            record {
              begun = j.loop-count.invariant.3 many;
              passed = record { count = omega arith; before = λ k h. absurd (omega arith) };
              held = λ k h. absurd (omega arith);
            },
          )
      | else-count-eq-SHORT a ↦ subst (λ (order : List ℕ). Sorted t j.args.n (bands_in j.args.rows.now) order j.if-count-eq-SHORT.next j.loop-count.p) (sym a.order-is)
          (subst (λ (next : ℕ). Sorted t j.args.n (bands_in j.args.rows.now) j.loop-count.order next j.loop-count.p) (sym a.next-is) (j.loop-count.invariant.4 (sym a.sorted-is ∙ e)))
    ]

found : (d : After-find-due) → d.find-due.result.far ≡ furthest_band (take d.args.n (bands_in d.args.rows.now)) (top d.args.width.bits) d.loop-count.p
found d = d.find-due.ensures.0

-- there is room for one link more
room : (l : At-loop-count) → 3 * l.loop-count.count + 3 ≤ length l.loop-count.out
room l =
    let h = of_own l in
    let e = none_own l in
    let few = walk_room _ l.requires.of_lawful.0 (none_fits _ l.requires.of_lawful.0 e) _ (word l) _ _ _ (l.loop-count.invariant.2 l.requires.of_lawful.0 h e) l.requires.width.low h.0 in
    omega (arith, count l, l.requires.n_in_bounds)

-- the link is the one that the paper takes at p, whichever rules the bands and the bits are those of
here : (a : After-link_at-link) (r : List Rule) → OfLawful a.args.width.bits (take a.args.n (bands_in a.args.rows.now)) a.args.fixed r
    → a.link_at-link.result ≡ link_at a.args.width.bits r a.loop-count.p
here a r h =
    a.link_at-link.ensures
    ∙ found_link _ _ a.args.n (bands_in a.args.rows.now) (a.requires.lie) a.args.fixed a.find-due.result.far (a.find-due.ensures.0)
    ∙ own_link (take a.args.n (bands_in a.args.rows.now)) a.args.fixed a.args.width.bits r a.requires.width.low h _ (let word-1 : a.loop-count.p ≤ top a.args.width.bits = omega arith in word-1)

-- the link goes up from p to a word
order : (a : After-link_at-link) → (a.loop-count.p ≤ a.link_at-link.result.to) × (a.link_at-link.result.to ≤ top a.args.width.bits)
order a =
    link_order _ a.requires.of_lawful.0 (none_fits _ a.requires.of_lawful.0 (a.requires.of_lawful.2)) _ (let word-2 : a.loop-count.p ≤ top a.args.width.bits = omega arith in word-2) _ (here a a.requires.of_lawful.0 (a.requires.of_lawful.1))

pub loop-count-init : goal.loop-count-init
loop-count-init c = (omega arith, refl, λ r h e. walk_start _ r _, λ h. absurd (omega arith), λ e. absurd (false≢true e))

pub lay-sorted-requires : goal.lay-sorted-requires
lay-sorted-requires c =
    subst (λ (t : ℕ). Lie t c.args.n (lying (goal.at.lay-sorted-requires c).At-loop-count)) (sym c.top-top.ensures) (lie (goal.at.lay-sorted-requires c).At-loop-count)

pub find-due-requires : goal.find-due-requires
find-due-requires c = record { width = c.requires.width; lie = lie (goal.at.find-due-requires c).At-loop-count; p_bound = word (goal.at.find-due-requires c).At-loop-count; in_order = λ e. in_order (goal.at.find-due-requires c).Joined-count-eq-SHORT e }

pub link_at-link-requires : goal.link_at-link-requires
link_at-link-requires c = record { width = c.requires.width; tidy = (subst Tidy (sym (of_own (goal.at.link_at-link-requires c).At-loop-count).1.bits) (fixed_tidy c.requires.of_lawful.0), word (goal.at.link_at-link-requires c).At-loop-count); reached = reached _ _ c.args.n (lying (goal.at.link_at-link-requires c).At-loop-count) (lie (goal.at.link_at-link-requires c).At-loop-count) c.find-due.result.far (found (goal.at.link_at-link-requires c).After-find-due) }

pub overflow_mul-count : goal.overflow_mul-count
overflow_mul-count c = omega (arith, room (goal.at.overflow_mul-count c).At-loop-count)

pub put-requires : goal.put-requires
put-requires c = room (goal.at.put-requires c).At-loop-count

pub overflow_add-count : goal.overflow_add-count
overflow_add-count c = omega (arith, room (goal.at.overflow_add-count c).At-loop-count)

pub overflow_add-p : goal.overflow_add-p
overflow_add-p c = omega (arith, order (goal.at.overflow_add-p c).After-link_at-link)

pub loop-count-smaller : goal.loop-count-smaller
loop-count-smaller c = omega (arith, order (goal.at.loop-count-smaller c).After-link_at-link)

pub loop-count-preserved : goal.loop-count-preserved
loop-count-preserved c =
    let up : c.link_at-link.result.to < top c.args.width.bits = omega (arith, order (goal.at.loop-count-preserved c).After-link_at-link) in
    let ends = link_ends _ c.loop-count.p (lying (goal.at.loop-count-preserved c).At-loop-count) c.args.fixed c.find-due.result.far c.link_at-link.result c.link_at-link.ensures in (
      omega arith,
      c.put.auto.out ∙ c.loop-count.invariant.1,
      λ r h e. walk_on _ r (none_fits _ r e) _ (word (goal.at.loop-count-preserved c).At-loop-count) _ _ _ (c.loop-count.invariant.2 r h e) _ (here (goal.at.loop-count-preserved c).After-link_at-link r h) _ c.put.ensures up,
      λ h. begun_on _ c.args.n _ (lying (goal.at.loop-count-preserved c).At-loop-count) (lie (goal.at.loop-count-preserved c).At-loop-count) c.find-due.result.far (found (goal.at.loop-count-preserved c).After-find-due) _ (order (goal.at.loop-count-preserved c).After-link_at-link).0 up ends,
      λ e. ((in_order (goal.at.loop-count-preserved c).Joined-count-eq-SHORT e).0, ready_on _ c.args.n _ (lying (goal.at.loop-count-preserved c).At-loop-count) (lie (goal.at.loop-count-preserved c).At-loop-count) c.find-due.result.far (found (goal.at.loop-count-preserved c).After-find-due) _ (order (goal.at.loop-count-preserved c).After-link_at-link).0 up ends _ _ (in_order (goal.at.loop-count-preserved c).Joined-count-eq-SHORT e).0 (c.find-due.ensures.1 e)),
    )

pub shape_of-out : goal.shape_of-out
shape_of-out c =
    c.put.auto.out ∙ c.loop-count.invariant.1

pub returns : goal.returns
returns c =
    λ r h e. walk_end _ r (none_fits _ r e) _ (word (goal.at.returns c).At-loop-count) _ _ _ (c.loop-count.invariant.2 r h e) _ (here (goal.at.returns c).After-link_at-link r h) _ c.put.ensures (c.if-link-top.true ∙ c.top-top.ensures)
