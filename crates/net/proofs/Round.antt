-- Where as many steps in a row as there are joins changed nothing, every join had its turn among them, and none can change the words:
-- a step that changes nothing leaves the words as the steps before it found them. Assumes nothing.
use mathlib.Core.Path.{◌≡◌, sym, ap, ap₂, subst, subst⁻¹, ◌∙◌}
use mathlib.Core.Bool.{Bool, true, false, cond, true≢false}
use mathlib.Core.List.{List}
use mathlib.Core.Logic.{⊎_elim}
use Prim.Native.Nat.{ℕ, zero, suc, ◌+◌, ◌%◌, ◌≤◌, ◌<◌}
use native.Mathlib.Decide.{dec_le, ℕ_discrete}
use native.Mathlib.Nat.{add-mod_right, mod-eq_of_lt}
use native.Mathlib.Omega.{arith}
use Rattle.span.specs.declared.interval.Interval.{Interval}
use Rattle.net.specs.declared.net_step.Join.{Join}
use Rattle.net.specs.Demand.{Still}
use Rattle.net.specs.net_tests.Fits.{join_at}
use Rattle.net.specs.Net.{turn}
use Rattle.net.specs.route.Run.{Stand, next, stand, start}
use Rattle.net.specs.net_step.Step.{after, emptied, left, stepped, unchanged}
use Rattle.net.proofs.Reached.{told}
use Rattle.net.proofs.net_step.Unchanged.{unchanged_equal}

-- of the m steps before step s, the one at which join k had its turn
record Turn (m s k : ℕ) : Type 0 where
  at : ℕ
  late : s ≤ at + m
  before : at < s
  is : at % m ≡ k

had_turn : (m s k : ℕ) → k < m → m ≤ s → Turn m s k
had_turn m zero k h l = absurd (omega arith)
had_turn m (suc s) k h l =
    elim (dec_le m s) [
      | no n ↦ record { at = k; late = omega arith; before = omega arith; is = mod-eq_of_lt h }
      | yes n ↦
          let t = had_turn m s k h n in
          elim (dec_le (suc s) (t.at + m)) [
            | yes e ↦ record { at = t.at; late = e; before = omega (arith, t.before); is = t.is }
            | no e ↦
                record { at = t.at + m; late = omega (arith, t.late); before = omega (arith, t.late); is = add-mod_right t.at m ∙ t.is }
          ]
    ]

few_more : (b : Bool) {q n : ℕ} → q ≤ n → cond b (suc q) 0 ≤ suc n
few_more true h = omega arith
few_more false h = omega arith

module _ (w : ℕ) (js : List Join) (m : ℕ) where
  -- where no cut was empty, the last steps that changed nothing were by joins that cannot change the words
  pub record Quiet (s : Stand) : Type 0 where
    pub few : s.quiet ≤ s.steps
    pub still : s.empty ≡ false → (i : ℕ) → s.steps ≤ i + s.quiet → i < s.steps → Still w (turn js m i) s.words

  pub quiet_start : (ws : List Interval) → Quiet (start ws)
  unfolding start
  quiet_start ws = record { few = omega arith; still = λ e i a b. absurd (omega arith) }

  module _ (s : Stand) (e : s.empty ≡ false) (q : Quiet s) where
    now : Join
    now = turn js m s.steps

    after_same : Still w now s.words → Quiet (stand s.words (suc s.steps) (suc s.quiet) false)
    unfolding now
    after_same h = record { few = omega (arith, q.few); still = each }
      where
        each : false ≡ false → (i : ℕ) → suc s.steps ≤ i + suc s.quiet → i < suc s.steps → Still w (turn js m i) s.words
        each z i a b =
            elim (ℕ_discrete i s.steps) [
              | yes d ↦ subst⁻¹ (λ (n : ℕ). Still w (turn js m n) s.words) d h
              | no d ↦ q.still e i (omega arith) (omega arith)
            ]

    full_next : emptied w now s.words ≡ false
        → Quiet (stand (after w now s.words) (suc s.steps) (cond (unchanged s.words (after w now s.words)) (suc s.quiet) 0) false)
    full_next f = ⊎_elim same changed (told (unchanged s.words new))
      where
        new : List Interval
        new = after w now s.words

        same : unchanged s.words new ≡ true → Quiet (stand new (suc s.steps) (cond (unchanged s.words new) (suc s.quiet) 0) false)
        same t =
            let d = unchanged_equal s.words new t in
            subst Quiet (ap₂ (λ (vs : List Interval) (b : Bool). stand vs (suc s.steps) (cond b (suc s.quiet) 0) false) d (sym t))
            (after_same (record { same = sym d; full = f }))

        changed : unchanged s.words new ≡ false → Quiet (stand new (suc s.steps) (cond (unchanged s.words new) (suc s.quiet) 0) false)
        changed t =
            subst Quiet (ap (λ (b : Bool). stand new (suc s.steps) (cond b (suc s.quiet) 0) false) (sym t))
            (record { few = omega arith; still = λ z i a b. absurd (omega arith) })

    pub quiet_next : Quiet (next w js m s)
    unfolding next stepped left now
    quiet_next = ⊎_elim empty full (told (emptied w now s.words))
      where
        at : Bool → Stand
        at b =
            let vs = cond b s.words (after w now s.words) in
            stand vs (suc s.steps) (cond (unchanged s.words vs) (suc s.quiet) 0) b

        empty : emptied w now s.words ≡ true → Quiet (next w js m s)
        empty t =
            subst⁻¹ (λ (b : Bool). Quiet (at b)) t
            (record { few = few_more (unchanged s.words s.words) q.few; still = λ z i a b. absurd (true≢false z) })

        full : emptied w now s.words ≡ false → Quiet (next w js m s)
        full t = subst⁻¹ (λ (b : Bool). Quiet (at b)) t (full_next t)

  pub all_still : (s : Stand) → s.empty ≡ false → Quiet s → m ≤ s.quiet → (k : ℕ) → k < m → Still w (join_at js k) s.words
  unfolding turn
  all_still s e q l k h =
      let t = had_turn m s.steps k h (omega (arith, q.few)) in
      subst (λ (n : ℕ). Still w (join_at js n) s.words) t.is (q.still e t.at (omega (arith, t.late)) t.before)
