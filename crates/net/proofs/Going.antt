-- The plain rule, one case at a time, and how the walk's loop keeps to it: what is left of the run, from where it stands, comes to what
-- the whole run comes to. Assumes nothing.
use mathlib.Core.Path.{◌≡◌, sym, ap, ◌∙◌}
use mathlib.Core.Bool.{Bool, true, false, cond}
use mathlib.Core.List.{List}
use Prim.Native.Nat.{ℕ, zero, suc, ◌+◌, ◌-◌, ◌≤◌, ◌<◌}
use native.Mathlib.Numerals.{add-one}
use native.Mathlib.Omega.{arith}
use borrow.Author.Tests.{le-leb, lt-leb}
use Rattle.span.specs.declared.interval.Interval.{Interval}
use Rattle.net.specs.declared.Answer.{Answer}
use Rattle.net.specs.declared.Ended.TheVariants.{Empty, Spent, Steady}
use Rattle.net.specs.declared.net_step.Join.{Join}
use Rattle.net.specs.declared.net_step.Stepped.{Stepped}
use Rattle.net.specs.Net.{given, turn}
use Rattle.net.specs.route.Run.{Stand, Stop, goes, next, shown, stand, start, steady, stop}
use Rattle.net.specs.net_step.Step.{stepped}

met : (b : Bool) (x y : Stop) → b ≡ true → cond b x y ≡ x
met b x y e = ap (λ (c : Bool). cond c x y) e

unmet : (b : Bool) (x y : Stop) → b ≡ false → cond b x y ≡ y
unmet b x y e = ap (λ (c : Bool). cond c x y) e

module _ (w : ℕ) (js : List Join) (m : ℕ) where
  pub goes-empty : (k : ℕ) (s : Stand) → s.empty ≡ true → goes w js m k s ≡ stop Empty s
  unfolding goes
  goes-empty zero s e = met s.empty (stop Empty s) (cond (steady m s) (stop Steady s) (stop Spent s)) e
  goes-empty (suc k) s e =
      met s.empty (stop Empty s) (cond (steady m s) (stop Steady s) (goes w js m k (next w js m s))) e

  module _ (s : Stand) (e : s.empty ≡ false) where
    full : (last : Stop) → cond s.empty (stop Empty s) (cond (steady m s) (stop Steady s) last) ≡ cond (steady m s) (stop Steady s) last
    full last = unmet s.empty (stop Empty s) (cond (steady m s) (stop Steady s) last) e

    pub goes_steady : (k : ℕ) → m ≤ s.quiet → goes w js m k s ≡ stop Steady s
    unfolding goes steady
    goes_steady zero h = full (stop Spent s) ∙ met (steady m s) (stop Steady s) (stop Spent s) (le-leb m s.quiet h)
    goes_steady (suc k) h =
        let last = goes w js m k (next w js m s) in
        full last ∙ met (steady m s) (stop Steady s) last (le-leb m s.quiet h)

    module _ (h : s.quiet < m) where
      pub goes_spent : goes w js m 0 s ≡ stop Spent s
      unfolding goes steady
      goes_spent = full (stop Spent s) ∙ unmet (steady m s) (stop Steady s) (stop Spent s) (lt-leb m s.quiet h)

      pub goes-next : (k : ℕ) → goes w js m (suc k) s ≡ goes w js m k (next w js m s)
      unfolding goes steady
      goes-next k =
          let last = goes w js m k (next w js m s) in
          full last ∙ unmet (steady m s) (stop Steady s) last (lt-leb m s.quiet h)

  -- a walk that stands somewhere, with some of the steps paid for used
  pub record Walk (ws₀ : List Interval) (pay : ℕ) (s : Stand) : Type 0 where
    pub paid : s.steps ≤ pay
    pub whole : goes w js m (pay - s.steps) s ≡ goes w js m pay (start ws₀)

  pub walk_start : (ws₀ : List Interval) (pay : ℕ) → Walk ws₀ pay (stand ws₀ 0 0 false)
  unfolding start
  walk_start ws₀ pay =
      let e : pay - 0 ≡ pay = omega arith in
      record { paid = omega arith; whole = ap (λ (n : ℕ). goes w js m n (stand ws₀ 0 0 false)) e }

  module _ {ws₀ : List Interval} {pay : ℕ} {s : Stand} (i : Walk ws₀ pay s) where
    pub walk_empty : s.empty ≡ true → goes w js m pay (start ws₀) ≡ stop Empty s
    walk_empty e = sym i.whole ∙ goes-empty (pay - s.steps) s e

    module _ (e : s.empty ≡ false) where
      pub walk_steady : m ≤ s.quiet → goes w js m pay (start ws₀) ≡ stop Steady s
      walk_steady h = sym i.whole ∙ goes_steady s e (pay - s.steps) h

      module _ (h : s.quiet < m) where
        pub walk_spent : s.steps ≡ pay → goes w js m pay (start ws₀) ≡ stop Spent s
        walk_spent d =
            let z : pay - s.steps ≡ 0 = omega arith in
            sym i.whole ∙ ap (λ (n : ℕ). goes w js m n s) z ∙ goes_spent s e h

        -- r is what the step came to, and q the steps in a row
        pub walk_on : s.steps < pay → {r : Stepped} {q : ℕ} → r ≡ stepped w (turn js m s.steps) s.words → q ≡ cond r.quiet (suc s.quiet) 0
            → Walk ws₀ pay (stand r.words (s.steps + 1) q r.empty)
        unfolding next
        walk_on l {r} {q} d c =
            let more : pay - s.steps ≡ suc (pay - (s.steps + 1)) = omega arith in
            let left = pay - (s.steps + 1) in
            let t = stepped w (turn js m s.steps) s.words in
            let first : goes w js m left (stand r.words (s.steps + 1) q r.empty) ≡ goes w js m left (next w js m s) =
            rw (c, d)
            (ap (λ (n : ℕ). goes w js m left (stand t.words n (cond t.quiet (suc s.quiet) 0) t.empty)) (add-one s.steps)) in
            record {
              paid = omega arith;
              whole = first ∙ sym (goes-next s e h left) ∙ sym (ap (λ (n : ℕ). goes w js m n s) more) ∙ i.whole;
            }

-- what is answered where a run stops is what the whole run is answered, whichever test found it
module _ (w : ℕ) (js : List Join) (m : ℕ) {ws₀ : List Interval} {pay : ℕ} {s : Stand} (i : Walk w js m ws₀ pay s) where
  pub given_empty : {r : Answer} → r ≡ given Empty s.steps s.words → s.empty ≡ true → r ≡ shown (goes w js m pay (start ws₀))
  unfolding shown
  given_empty g e = g ∙ sym (ap shown (walk_empty w js m i e))

  pub given_steady : s.empty ≡ false → m ≤ s.quiet → {r : Answer} → r ≡ given Steady s.steps s.words → r ≡ shown (goes w js m pay (start ws₀))
  unfolding shown
  given_steady e h g = g ∙ sym (ap shown (walk_steady w js m i e h))

  pub given_spent : s.empty ≡ false → s.quiet < m → s.steps ≡ pay → {r : Answer} → r ≡ given Spent s.steps s.words → r ≡ shown (goes w js m pay (start ws₀))
  unfolding shown
  given_spent e h d g = g ∙ sym (ap shown (walk_spent w js m i e h d))
