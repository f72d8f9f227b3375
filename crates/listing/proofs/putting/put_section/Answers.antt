-- `put_section` meets its contract. The loop's invariant: x has the bits, and the words of the section below x that have them stand in the buffer
-- from the place on. The measure is the words left. Assumes nothing.
use mathlib.Core.Path.{◌≡◌, sym, ap, ap₂, ◌∙◌}
use mathlib.Core.Bool.{Bool, false}
use mathlib.Core.List.{List, [], ◌∷◌, ◌++◌}
use Prim.Native.Nat.{ℕ, suc, ◌+◌, ◌-◌, ◌^◌, ◌≤◌, ◌<◌, min}
use native.Mathlib.Omega.{arith}
use borrow.Author.Rules.{rules}
use borrow.Author.Tests.{not-false, not-true}
use lib.ListN.{length, length-append, length-set, length-take, set, take}
use lib.Seq.{take_all, take_at, take-nil}
use Rattle.word.specs.Search.{passing}
use Rattle.word.specs.Word.{top}
use Rattle.word.proofs.Searched.{First, first_is, first_nothing}
use Rattle.word.proofs.Widths.{top-suc}
use Rattle.rule.specs.bits.route.Fixed.{has_bits}
use Rattle.listing.specs.putting.route.Put.{put_at, run_words, section_words}
use Rattle.listing.proofs.putting.Puts.{put_length, put_more, put_none}
use Rattle.listing.proofs.putting.Words.{free_words, held_words, no_words, passing_found, passing_none, passing_on, passing_over}
use Rattle.listing.proofs.putting.put_section.Goals.{After-put_run, At-loop-at, Else-last-x, Else-not-section, In-Some-after, Start}
use Rattle.listing.proofs.putting.put_section.Goals as goal

abbrev has : Else-not-section → ℕ → Bool
has h = has_bits h.args.force.fixed

abbrev end : Else-not-section → ℕ
end h = suc h.args.section.to

-- the words of the section below q, and all of them
abbrev words : Else-not-section → ℕ → List ℕ
words h q = passing (has h) (q - h.args.p) h.args.p

all_words : (h : Else-not-section) → section_words h.args.section h.args.force.fixed h.args.p ≡ words h (end h)
all_words h = held_words h.args.section h.args.force.fixed h.args.p (not-false h.args.section.held h.if-not-section.false)

-- what is written where so much of the section stands in the buffer
abbrev Done : Start → ℕ → List ℕ → Type 0
Done s r out =
    let xs : List ℕ = take (length s.args.out.now - s.args.place) (section_words s.args.section s.args.force.fixed s.args.p) in
    (r ≡ s.args.place + length xs) × (out ≡ put_at s.args.out.now s.args.place xs)

done : (h : Else-not-section) (ws : List ℕ) {r : ℕ} {out : List ℕ} → take (length h.args.out.now - h.args.place) (words h (end h)) ≡ ws → r ≡ h.args.place + length ws → out ≡ put_at h.args.out.now h.args.place ws → (let xs : List ℕ = take (length h.args.out.now - h.args.place) (section_words h.args.section h.args.force.fixed h.args.p) in
    (r ≡ h.args.place + length xs) × (out ≡ put_at h.args.out.now h.args.place xs))
done h ws e f g =
    let q = sym (ap (take (length h.args.out.now - h.args.place)) (all_words h) ∙ e) in
    (f ∙ ap (λ (xs : List ℕ). h.args.place + length xs) q, g ∙ ap (put_at h.args.out.now h.args.place) q)

-- the whole section stands there
whole : (h : Else-not-section) (q : ℕ) {r : ℕ} {out : List ℕ} → words h (end h) ≡ words h q → r ≤ length h.args.out.now → r ≡ h.args.place + length (words h q) → out ≡ put_at h.args.out.now h.args.place (words h q) → (let xs : List ℕ = take (length h.args.out.now - h.args.place) (section_words h.args.section h.args.force.fixed h.args.p) in
    (r ≡ h.args.place + length xs) × (out ≡ put_at h.args.out.now h.args.place xs))
whole h q e l f g =
    done h (words h q)
    (ap (take (length h.args.out.now - h.args.place)) e ∙ take_all (length h.args.out.now - h.args.place) (words h q) (omega arith)) f g

-- nothing is written where there is no word
nothing : (s : Start) → section_words s.args.section s.args.force.fixed s.args.p ≡ [] → Done s s.args.place s.args.out.now
nothing s none =
    let b : List ℕ = s.args.out.now in
    let e = ap (take (length b - s.args.place)) none ∙ take-nil (length b - s.args.place) in
    let z : s.args.place ≡ s.args.place + length {A = ℕ} [] = omega arith in
    (z ∙ ap (λ (xs : List ℕ). s.args.place + length xs) (sym e), sym (put_none b s.args.place) ∙ ap (put_at b s.args.place) (sym e))

run_is : (c : After-put_run) → run_words (record { from = c.args.p; to = c.args.section.to }) ≡ section_words c.args.section c.args.force.fixed c.args.p
run_is c =
    free_words c.args.section c.args.force.fixed c.args.p (not-false c.args.section.held c.if-not-section.false) (sym c.free.ensures ∙ c.if-free.true) c.requires.tidy.0

-- no word of the section below q has the bits
none_to : (h : Else-not-section) (q : ℕ) → h.args.p ≤ q → ((y : ℕ) → h.args.p ≤ y → y < q → has h y ≡ false) → words h q ≡ []
none_to h q l n = passing_over (has h) h.args.p h.args.p q (omega arith) l n ∙ passing_none (has h) h.args.p

-- the words below x
abbrev put : At-loop-at → List ℕ
put l = (passing (has_bits l.args.force.fixed) ((min l.loop-at.x (suc l.args.section.to)) - l.args.p) l.args.p)

room : (l : At-loop-at) → length l.loop-at.out ≡ length l.args.out.now
room l = ap length l.loop-at.invariant.4 ∙ put_length l.args.out.now l.args.place (put l) (omega arith)

-- one word more stands in the buffer
one_more : (i : Else-last-x) → (passing (has_bits i.args.force.fixed) ((suc i.loop-at.x) - i.args.p) i.args.p) ≡ ((passing (has_bits i.args.force.fixed) ((min i.loop-at.x (suc i.args.section.to)) - i.args.p) i.args.p)) ++ i.loop-at.x ∷ []
one_more i =
    let here : First (has_bits i.args.force.fixed) 1 i.loop-at.x i.loop-at.x = record { low = omega arith; high = omega arith; passes = i.loop-at.invariant.1; none_before = λ y a b. absurd (omega arith) } in
    let e : i.loop-at.x ≡ min i.loop-at.x (suc i.args.section.to) = omega (arith, i.if-last-x.false) in
    passing_found (has_bits i.args.force.fixed) _ i.loop-at.x i.loop-at.x 1 i.loop-at.invariant.0 here ∙ ap (λ (q : ℕ). (passing (has_bits i.args.force.fixed) (q - i.args.p) i.args.p) ++ i.loop-at.x ∷ []) e

below : (i : Else-last-x) → i.loop-at.at < length i.args.out.now
below i = omega (arith, (let room-1 : length i.loop-at.out ≡ length i.args.out.now = ap length i.loop-at.invariant.4 ∙ put_length i.args.out.now i.args.place ((passing (has_bits i.args.force.fixed) ((min i.loop-at.x (suc i.args.section.to)) - i.args.p) i.args.p)) (omega arith) in room-1), i.loop-at-test.true)

stored : (i : Else-last-x) → set i.loop-at.out i.loop-at.at i.loop-at.x ≡ put_at i.args.out.now i.args.place (passing (has_bits i.args.force.fixed) ((suc i.loop-at.x) - i.args.p) i.args.p)
stored i =
    ap₂ (λ (out : List ℕ) (at : ℕ). set out at i.loop-at.x) i.loop-at.invariant.4 i.loop-at.invariant.2
    ∙ put_more i.args.out.now i.args.place i.loop-at.x ((passing (has_bits i.args.force.fixed) ((min i.loop-at.x (suc i.args.section.to)) - i.args.p) i.args.p)) (omega (arith, below i, i.loop-at.invariant.2))
    ∙ ap (put_at i.args.out.now i.args.place) (sym (one_more i))

counted : (i : Else-last-x) → i.loop-at.at + 1 ≡ i.args.place + length (passing (has_bits i.args.force.fixed) ((suc i.loop-at.x) - i.args.p) i.args.p)
counted i = omega (arith, i.loop-at.invariant.2, ap length (one_more i), length-append ((passing (has_bits i.args.force.fixed) ((min i.loop-at.x (suc i.args.section.to)) - i.args.p) i.args.p)) (i.loop-at.x ∷ []))

-- and no more where no word up to q has the bits
no_more : (i : Else-last-x) (q : ℕ) → i.loop-at.x < q → ((y : ℕ) → i.loop-at.x < y → y < q → (has_bits i.args.force.fixed) y ≡ false) → (passing (has_bits i.args.force.fixed) (q - i.args.p) i.args.p) ≡ (passing (has_bits i.args.force.fixed) ((suc i.loop-at.x) - i.args.p) i.args.p)
no_more i q l n = passing_over (has_bits i.args.force.fixed) _ (suc i.loop-at.x) q (omega (arith, i.loop-at.invariant.0)) (omega arith) (λ y a b. n y (omega arith) b)

next_at : (k : In-Some-after) → First (has_bits k.args.force.fixed) (suc (top 64) - suc k.loop-at.x) (suc k.loop-at.x) k.in-Some-after.next
next_at k = first_is _ _ _ _ (sym k.after.ensures ∙ k.in-Some-after.is)

pub returns-then-not-section : goal.returns-then-not-section
returns-then-not-section c = let whole = nothing (goal.at.returns-then-not-section c).Start (no_words c.args.section c.args.force.fixed c.args.p (not-true c.args.section.held c.if-not-section.true)) in record { value = whole.0; out_after = whole.1 }

pub put_run-requires : goal.put_run-requires
put_run-requires c = (c.requires.p_le_to.0, c.requires.tidy.1)

pub shape_of-out-then-free : goal.shape_of-out-then-free
shape_of-out-then-free c =
    ap length c.put_run.ensures.out_after
    ∙ put_length c.args.out.now c.args.place _ (omega (arith, c.requires.tidy.1, length-take (length c.args.out.now - c.args.place) (run_words (record { from = c.args.p; to = c.args.section.to }))))

pub returns-then-free : goal.returns-then-free
returns-then-free c = record { value = c.put_run.ensures.value ∙ ap (λ (xs : List ℕ). c.args.place + length (take (length c.args.out.now - c.args.place) xs)) (run_is (goal.at.returns-then-free c).After-put_run); out_after = c.put_run.ensures.out_after ∙ ap (λ (xs : List ℕ). put_at c.args.out.now c.args.place (take (length c.args.out.now - c.args.place) xs)) (run_is (goal.at.returns-then-free c).After-put_run) }

pub next-requires : goal.next-requires
next-requires c = record { width = c.requires.width; p_bound = omega (arith, c.requires.p_le_to.0, c.requires.p_le_to.1); tidy = c.requires.tidy.0 }

pub returns-in_default : goal.returns-in_default
returns-in_default c =
    let none = first_nothing (has (goal.at.returns-in_default c).Else-not-section) _ c.args.p (sym c.next.ensures ∙ c.in_default.is) in let whole = nothing (goal.at.returns-in_default c).Start (all_words (goal.at.returns-in_default c).Else-not-section ∙ none_to (goal.at.returns-in_default c).Else-not-section (end (goal.at.returns-in_default c).Else-not-section) (omega (arith, c.requires.p_le_to.0)) (λ y a b. none y a (omega (arith, c.requires.p_le_to.1)))) in record { value = whole.0; out_after = whole.1 }

pub loop-at-init : goal.loop-at-init
loop-at-init c =
    let found = first_is _ _ _ _ (sym c.next.ensures ∙ c.in-Some.is) in
    let none = none_to (goal.at.loop-at-init c).Else-not-section (min c.in-Some.first (end (goal.at.loop-at-init c).Else-not-section)) (omega (arith, found.low, c.requires.p_le_to.0)) (λ y a b. found.none_before y a (omega arith)) in
    let z : c.args.place ≡ c.args.place + length {A = ℕ} [] = omega arith in (
      found.low,
      found.passes,
      z ∙ ap (λ (xs : List ℕ). c.args.place + length xs) (sym none),
      c.requires.tidy.1,
      sym (put_none c.args.out.now c.args.place) ∙ ap (put_at c.args.out.now c.args.place) (sym none),
    )

pub shape_of-out-then-last-x : goal.shape_of-out-then-last-x
shape_of-out-then-last-x c = room (goal.at.shape_of-out-then-last-x c).At-loop-at

pub returns-then-last-x : goal.returns-then-last-x
returns-then-last-x c =
    let e : end (goal.at.returns-then-last-x c).Else-not-section ≡ min c.loop-at.x (end (goal.at.returns-then-last-x c).Else-not-section) = omega (arith, c.if-last-x.true) in let whole = whole (goal.at.returns-then-last-x c).Else-not-section (min c.loop-at.x (end (goal.at.returns-then-last-x c).Else-not-section)) (ap (words (goal.at.returns-then-last-x c).Else-not-section) e) c.loop-at.invariant.3 c.loop-at.invariant.2 c.loop-at.invariant.4 in record { value = whole.0; out_after = whole.1 }

pub overflow_add-at : goal.overflow_add-at
overflow_add-at c = omega arith

pub after-requires : goal.after-requires
after-requires c = (c.requires.tidy.0, c.loop-at.invariant.1)

pub shape_of-out-in_default-after : goal.shape_of-out-in_default-after
shape_of-out-in_default-after c =
    length-set c.loop-at.out c.loop-at.at c.loop-at.x ∙ room (goal.at.shape_of-out-in_default-after c).At-loop-at

pub returns-in_default-after : goal.returns-in_default-after
returns-in_default-after c =
    let none = first_nothing (has (goal.at.returns-in_default-after c).Else-not-section) _ (suc c.loop-at.x) (sym c.after.ensures ∙ c.in_default-after.is) in
    let last : c.args.section.to < 2 ^ 64 = search rules in let whole = whole (goal.at.returns-in_default-after c).Else-not-section (suc c.loop-at.x)
    (no_more (goal.at.returns-in_default-after c).Else-last-x (end (goal.at.returns-in_default-after c).Else-not-section) (omega (arith, c.if-last-x.false)) (λ y l b. none y (omega arith) (omega (arith, top-suc 64))))
    (omega (arith, below (goal.at.returns-in_default-after c).Else-last-x)) (counted (goal.at.returns-in_default-after c).Else-last-x) (stored (goal.at.returns-in_default-after c).Else-last-x) in record { value = whole.0; out_after = whole.1 }

pub loop-at-smaller : goal.loop-at-smaller
loop-at-smaller c = omega (arith, (next_at (goal.at.loop-at-smaller c).In-Some-after).low, c.if-last-x.false)

pub loop-at-preserved : goal.loop-at-preserved
loop-at-preserved c =
    let found = next_at (goal.at.loop-at-preserved c).In-Some-after in
    let same = sym (no_more (goal.at.loop-at-preserved c).Else-last-x (min c.in-Some-after.next (end (goal.at.loop-at-preserved c).Else-not-section)) (omega (arith, found.low, c.if-last-x.false)) (λ z l b. found.none_before z (omega arith) (omega arith))) in (
      omega (arith, found.low, c.loop-at.invariant.0),
      found.passes,
      counted (goal.at.loop-at-preserved c).Else-last-x ∙ ap (λ (ws : List ℕ). c.args.place + length ws) same,
      omega (arith, below (goal.at.loop-at-preserved c).Else-last-x),
      stored (goal.at.loop-at-preserved c).Else-last-x ∙ ap (put_at c.args.out.now c.args.place) same,
    )

pub shape_of-out : goal.shape_of-out
shape_of-out c = room (goal.at.shape_of-out c).At-loop-at

pub returns : goal.returns
returns c =
    let q = min c.loop-at.x (end (goal.at.returns c).Else-not-section) in let whole = done (goal.at.returns c).Else-not-section (put (goal.at.returns c).At-loop-at)
    (ap (take (length c.args.out.now - c.args.place)) (passing_on (has (goal.at.returns c).Else-not-section) c.args.p q (end (goal.at.returns c).Else-not-section) (omega (arith, c.loop-at.invariant.0, c.requires.p_le_to.0)) (omega arith))
    ∙ take_at (put (goal.at.returns c).At-loop-at) _ (length c.args.out.now - c.args.place) (omega (arith, c.loop-at.invariant.2, c.loop-at.invariant.3, room (goal.at.returns c).At-loop-at, c.loop-at-test.false)))
    c.loop-at.invariant.2 c.loop-at.invariant.4 in record { value = whole.0; out_after = whole.1 }
