-- `put_run` meets its contract. The loop's invariant: the words of the run below x stand in the buffer from the place on. The measure is the words
-- left. Assumes nothing.
use mathlib.Core.Path.{◌≡◌, refl, sym, ap, ap₂, ◌∙◌}
use mathlib.Core.Bool.{true}
use mathlib.Core.List.{List, [], ◌∷◌, ◌++◌}
use Prim.Native.Nat.{ℕ, suc, ◌+◌, ◌-◌, ◌≤◌, ◌<◌}
use native.Mathlib.Numerals.{add-one}
use native.Mathlib.Omega.{arith}
use lib.ListN.{length, length-append, length-set, set, take}
use lib.Seq.{take_all, take_at}
use Rattle.word.proofs.Searched.{First}
use Rattle.listing.specs.putting.route.Put.{put_at, run_words}
use Rattle.listing.proofs.putting.Puts.{put_length, put_more, put_none}
use Rattle.listing.proofs.putting.Words.{passing_found, passing_none, passing_on}
use Rattle.listing.proofs.putting.put_run.Invariants.{from_to}
use Rattle.listing.proofs.putting.put_run.Goals.{At-loop-at}
use Rattle.listing.proofs.putting.put_run.Goals as goal

-- the words of the run below q, and all of them
abbrev words : At-loop-at → ℕ → List ℕ
words l q = from_to l.args.words.from q

all_words : (l : At-loop-at) → run_words l.args.words ≡ words l (suc l.args.words.to)
unfolding run_words
all_words l = refl

-- what is written where so much of the run stands in the buffer
abbrev Done : At-loop-at → ℕ → List ℕ → Type 0
Done l r out =
    let xs : List ℕ = take (length l.args.out.now - l.args.place) (run_words l.args.words) in
    (r ≡ l.args.place + length xs) × (out ≡ put_at l.args.out.now l.args.place xs)

done : (l : At-loop-at) (ws : List ℕ) {r : ℕ} {out : List ℕ} → take (length l.args.out.now - l.args.place) (words l (suc l.args.words.to)) ≡ ws → r ≡ l.args.place + length ws → out ≡ put_at l.args.out.now l.args.place ws → Done l r out
done l ws e f g =
    let q = sym (ap (take (length l.args.out.now - l.args.place)) (all_words l) ∙ e) in
    (f ∙ ap (λ (xs : List ℕ). l.args.place + length xs) q, g ∙ ap (put_at l.args.out.now l.args.place) q)

room : (l : At-loop-at) → length l.loop-at.out ≡ length l.args.out.now
room l = ap length l.loop-at.invariant.4 ∙ put_length l.args.out.now l.args.place (words l l.loop-at.x) (omega arith)

-- one word more stands in the buffer
one_more : (l : At-loop-at) → words l (suc l.loop-at.x) ≡ words l l.loop-at.x ++ l.loop-at.x ∷ []
one_more l =
    let here : First (λ (y : ℕ). true) 1 l.loop-at.x l.loop-at.x = record { low = omega arith; high = omega arith; passes = refl; none_before = λ y a b. absurd (omega arith) } in
    passing_found (λ (y : ℕ). true) l.args.words.from l.loop-at.x l.loop-at.x 1 l.loop-at.invariant.0 here

stored : (l : At-loop-at) → l.loop-at.at < length l.loop-at.out → set l.loop-at.out l.loop-at.at l.loop-at.x ≡ put_at l.args.out.now l.args.place (words l (suc l.loop-at.x))
stored l h =
    ap₂ (λ (b : List ℕ) (i : ℕ). set b i l.loop-at.x) l.loop-at.invariant.4 l.loop-at.invariant.2
    ∙ put_more l.args.out.now l.args.place l.loop-at.x (words l l.loop-at.x) (omega (arith, room l, l.loop-at.invariant.2))
    ∙ ap (put_at l.args.out.now l.args.place) (sym (one_more l))

counted : (l : At-loop-at) → l.loop-at.at + 1 ≡ l.args.place + length (words l (suc l.loop-at.x))
counted l = omega (arith, l.loop-at.invariant.2, ap length (one_more l), length-append (words l l.loop-at.x) (l.loop-at.x ∷ []))

pub loop-at-init : goal.loop-at-init
loop-at-init c =
    let n = passing_none (λ (y : ℕ). true) c.args.words.from in
    let z : c.args.place ≡ c.args.place + length {A = ℕ} [] = omega arith in (
      omega arith,
      c.requires.0,
      z ∙ ap (λ (xs : List ℕ). c.args.place + length xs) (sym n),
      c.requires.1,
      sym (put_none c.args.out.now c.args.place) ∙ ap (put_at c.args.out.now c.args.place) (sym n),
    )

pub overflow_add-at : goal.overflow_add-at
overflow_add-at c = omega arith

pub shape_of-out-then-x-last : goal.shape_of-out-then-x-last
shape_of-out-then-x-last c = length-set c.loop-at.out c.loop-at.at c.loop-at.x ∙ room (goal.at.shape_of-out-then-x-last c).At-loop-at

pub returns-then-x-last : goal.returns-then-x-last
returns-then-x-last c =
    let ws = words (goal.at.returns-then-x-last c).At-loop-at (suc c.loop-at.x) in
    let room-left : length ws ≤ length c.args.out.now - c.args.place = omega (arith, counted (goal.at.returns-then-x-last c).At-loop-at, room (goal.at.returns-then-x-last c).At-loop-at, c.loop-at-test.true) in let whole = done (goal.at.returns-then-x-last c).At-loop-at ws
    (ap (λ (q : ℕ). take (length c.args.out.now - c.args.place) (words (goal.at.returns-then-x-last c).At-loop-at (suc q))) (sym c.if-x-last.true) ∙ take_all (length c.args.out.now - c.args.place) ws room-left)
    (counted (goal.at.returns-then-x-last c).At-loop-at) (stored (goal.at.returns-then-x-last c).At-loop-at c.loop-at-test.true) in record { value = whole.0; out_after = whole.1 }

pub loop-at-smaller : goal.loop-at-smaller
loop-at-smaller c = omega (arith, c.loop-at.invariant.1, c.if-x-last.false)

pub loop-at-preserved : goal.loop-at-preserved
loop-at-preserved c =
    let e = sym (add-one c.loop-at.x) in (
      omega (arith, c.loop-at.invariant.0),
      omega (arith, c.loop-at.invariant.1, c.if-x-last.false),
      counted (goal.at.loop-at-preserved c).At-loop-at ∙ ap (λ (q : ℕ). c.args.place + length (words (goal.at.loop-at-preserved c).At-loop-at q)) e,
      omega (arith, room (goal.at.loop-at-preserved c).At-loop-at, c.loop-at-test.true),
      stored (goal.at.loop-at-preserved c).At-loop-at c.loop-at-test.true ∙ ap (λ (q : ℕ). put_at c.args.out.now c.args.place (words (goal.at.loop-at-preserved c).At-loop-at q)) e,
    )

pub shape_of-out : goal.shape_of-out
shape_of-out c = room (goal.at.shape_of-out c).At-loop-at

pub returns : goal.returns
returns c =
    let ws = words (goal.at.returns c).At-loop-at c.loop-at.x in let whole = done (goal.at.returns c).At-loop-at ws
    (ap (take (length c.args.out.now - c.args.place)) (passing_on (λ (y : ℕ). true) c.args.words.from c.loop-at.x (suc c.args.words.to) c.loop-at.invariant.0 (omega (arith, c.loop-at.invariant.1)))
    ∙ take_at ws _ (length c.args.out.now - c.args.place) (omega (arith, c.loop-at.invariant.2, c.loop-at.invariant.3, room (goal.at.returns c).At-loop-at, c.loop-at-test.false)))
    c.loop-at.invariant.2 c.loop-at.invariant.4 in record { value = whole.0; out_after = whole.1 }
