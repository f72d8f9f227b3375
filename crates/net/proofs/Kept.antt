-- A step loses no assignment that satisfies its join: K11 says so of each result, and a cut keeps what lies in both. Assumes nothing.
use mathlib.Core.Path.{◌≡◌, refl, subst⁻¹}
use mathlib.Core.Bool.{Bool, true, false, ◌||◌, cond}
use mathlib.Core.List.{List}
use Prim.Native.Nat.{ℕ, ◌≤◌, ◌<◌}
use native.Mathlib.Decide.{ℕ_discrete}
use native.Mathlib.Omega.{arith}
use lib.Dec.{eqb}
use Rattle.word.specs.Word.{top}
use Rattle.word.proofs.Tests.{both_fail}
use Rattle.span.specs.declared.interval.Interval.{Interval}
use Rattle.span.specs.declared.interval.Op.{Op}
use Rattle.span.specs.declared.interval.Op.TheVariants.{And, Not, Or, Xor}
use Rattle.span.specs.Demand.{InSecond, Solves}
use Rattle.span.specs.interval.Interval.{In, Words, cut, hollow}
use Rattle.span.specs.Join.{all_cut, all_within, any_hollow, as_given, is_width, joined, new_y, refusal, refused}
use Rattle.span.specs.interval.Op.{inverted, result, second}
use Rattle.span.specs.Join as join
use Rattle.span.proofs.interval.Intervals.{both_within, in_cut, not_hollow, ordered}
use Rattle.span.proofs.Outcome as outcome
use Rattle.net.specs.declared.net_step.Join.{Join}
use Rattle.net.specs.Demand.{AllIn}
use Rattle.net.specs.net_step.Named.{Named, place_of, third, word_at}
use Rattle.net.specs.net_step.Step.{after, emptied, no_word, results}
use Rattle.net.proofs.Cuts.{kept_all, shrinks}
use Rattle.net.proofs.net_step.Unchanged.{not_named}

-- words in every one of the first n intervals
abbrev pub AllWords : (w n : ℕ) → List Interval → Type 0
AllWords w n ws = (k : ℕ) → k < n → Words w (word_at ws k)

pub first_in : {w : ℕ} {i : Interval} → Words w i → In i i.low
first_in m = record { low = omega arith; high = m.order }

-- K11's tests pass
taken : {w : ℕ} {h x y : Interval} → is_width w ≡ true → Words w h → Words w x → Words w y → refused w h x y ≡ 0
unfolding refused all_within any_hollow
taken {w} {h} {x} {y} width mh mx my =
    simp (
      width,
      both_within (top w) h (omega arith) mh.top,
      both_within (top w) x (omega arith) mx.top,
      both_within (top w) y (omega arith) my.top,
      not_hollow (first_in mh),
      not_hollow (first_in mx),
      not_hollow (first_in my),
    )

second_words : {w : ℕ} (op : Op) {y : Interval} → Words w y → Words w (second op y)
unfolding second
second_words Not m = record { order = omega arith; top = omega arith }
second_words And m = m
second_words Or m = m
second_words Xor m = m

-- a NOT gives y back as it came
pub y_back : (w : ℕ) (h x y : Interval) → (joined w Not h x y).y ≡ y
unfolding joined as_given all_cut new_y inverted
y_back w h x y = go (eqb (refusal w Not h x y) 0) (join.emptied w Not h x y)
  where
    go : (a b : Bool) → (cond a (cond b (as_given 0 true h x y) (all_cut w Not h x y)) (as_given (refusal w Not h x y) false h x y)).y ≡ y
    go true true = refl
    go true false = refl
    go false b = refl

module _ (ws : List Interval) (v : ℕ → ℕ) (x y : ℕ) where
  second_in : (op : Op) → In (word_at ws (place_of op x y)) (v (place_of op x y)) → InSecond op (word_at ws (place_of op x y)) (v y)
  unfolding place_of InSecond
  second_in Not m = tt
  second_in And m = m
  second_in Or m = m
  second_in Xor m = m

  third_in : (w : ℕ) (op : Op) (h i : Interval) → In (word_at ws x) (v x) → InSecond op (joined w op h i (word_at ws (place_of op x y))).y (v y)
      → In (joined w op h i (word_at ws (place_of op x y))).y (v (place_of op x y))
  unfolding place_of InSecond
  third_in w Not h i l m = subst⁻¹ (λ (o : Interval). In o (v x)) (y_back w h i (word_at ws x)) l
  third_in w And h i l m = m
  third_in w Or h i l m = m
  third_in w Xor h i l m = m

module _ {w n : ℕ} (j : Join) (ws : List Interval) (width : is_width w ≡ true) (names : Named n j) (good : AllWords w n ws) where
  pub accepts : refusal w j.op (word_at ws j.h) (word_at ws j.x) (word_at ws (third j)) ≡ 0
  unfolding refusal
  accepts = taken width (good _ names.h) (good _ names.x) (second_words j.op (good _ names.y))

  -- a step that finds no empty cut leaves words in every interval
  pub words_after_lem : emptied w j ws ≡ false → AllWords w n (after w j ws)
  unfolding emptied no_word any_hollow after
  words_after_lem e k l =
      let (full, cuts) = both_fail (results w j ws).empty (no_word j (after w j ws)) e in
      let (h, t) = both_fail (hollow (new j.h)) (hollow (new j.x) || hollow (new (third j))) cuts in
      let (x, y) = both_fail (hollow (new j.x)) (hollow (new (third j))) t in
      record {
        order = go h x y (ℕ_discrete k j.h) (ℕ_discrete k j.x) (ℕ_discrete k (third j));
        top = omega (arith, (shrinks w j ws k).high, (good k l).top);
      }
    where
      new : ℕ → Interval
      new p = word_at (after w j ws) p

      here : (p : ℕ) → hollow (new p) ≡ false → k ≡ p → (new k).low ≤ (new k).high
      here p f e = subst⁻¹ (λ (q : ℕ). (new q).low ≤ (new q).high) e (ordered (new p) f)

      go : hollow (new j.h) ≡ false → hollow (new j.x) ≡ false → hollow (new (third j)) ≡ false → Dec (k ≡ j.h) → Dec (k ≡ j.x)
          → Dec (k ≡ third j) → (new k).low ≤ (new k).high
      go h x y (yes e) b c = here j.h h e
      go h x y (no a) (yes e) c = here j.x x e
      go h x y (no a) (no b) (yes e) = here (third j) y e
      go h x y (no a) (no b) (no c) =
          subst⁻¹ (λ (i : Interval). i.low ≤ i.high) (not_named j (results w j ws) ws k a b c) (good k l).order

  module _ (v : ℕ → ℕ) (inside : AllIn n ws v) (holds : v j.h ≡ result w j.op (v j.x) (v j.y)) where
    kept_one : ((results w j ws).empty ≡ false) × Solves w j.op (results w j ws).h (results w j ws).x (results w j ws).y (v j.h) (v j.x) (v j.y)
    unfolding results third
    kept_one =
        outcome.kept w j.op _ _ _ accepts
        (record {
          in_h = inside _ names.h;
          in_x = inside _ names.x;
          in_y = second_in ws v j.x j.y j.op (inside _ names.y);
          joins = holds;
        })

    in_third : In (results w j ws).y (v (third j))
    unfolding results third
    in_third = third_in ws v j.x j.y w j.op _ _ (inside _ names.x) kept_one.1.in_y

    pub inside_after : AllIn n (after w j ws) v
    unfolding after
    inside_after k l = kept_all (λ i. In i (v k)) k j (results w j ws) ws (cuts kept_one.1.in_h) (cuts kept_one.1.in_x) (cuts in_third) (inside k l)
      where
        cuts : {by : Interval} {p : ℕ} → In by (v p) → k ≡ p → (i : Interval) → In i (v k) → In (cut i by) (v k)
        cuts {by} m e i o = in_cut o (subst⁻¹ (λ (q : ℕ). In by (v q)) e m)

    pub none_empty : emptied w j ws ≡ false
    unfolding emptied no_word any_hollow
    none_empty = rw (kept_one.0, full _ names.h, full _ names.x, full _ names.y) refl
      where
        full : (k : ℕ) → k < n → hollow (word_at (after w j ws) k) ≡ false
        full k l = not_hollow (inside_after k l)
