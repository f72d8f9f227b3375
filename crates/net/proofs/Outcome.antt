-- What every answer has, in the paper's words. Each is so where the run starts, and a step keeps it. Assumes nothing.
use mathlib.Core.Path.{◌≡◌, refl, sym, ap, ◌∙◌}
use mathlib.Core.Bool.{false, true≢false}
use mathlib.Core.List.{List}
use mathlib.Core.Logic.{⊎_elim}
use Prim.Native.Nat.{ℕ, zero, suc, ◌+◌, ◌≤◌, ◌<◌}
use native.Mathlib.Decide.{dec_le, ℕ_discrete}
use native.Mathlib.Nat.{mod-lt, suc-add, zero-add}
use native.Mathlib.Omega.{arith}
use borrow.Author.Tests.{eq-eqb, eqb-false, ne_eqb}
use lib.Dec.{eqb}
use Rattle.span.specs.declared.interval.Interval.{Interval}
use Rattle.span.specs.Demand.{Inside}
use Rattle.span.specs.interval.Op.{result}
use Rattle.net.specs.declared.Answer.{Answer}
use Rattle.net.specs.declared.Ended.{Ended}
use Rattle.net.specs.declared.Ended.TheVariants.{Empty, Refused, Spent, Steady}
use Rattle.net.specs.declared.net_step.Join.{Join}
use Rattle.net.specs.declared.Net.{Net}
use Rattle.net.specs.Demand.{AllIn, Solution, Still, onward, resumed}
use Rattle.net.specs.net_step.Named.{Named, word_at}
use Rattle.net.specs.net_tests.Fits.{join_at}
use Rattle.net.specs.Net.{number, refusal, turn, turned_down}
use Rattle.net.specs.route.Run.{Stand, Stop, goes, next, ran, shown, start, walked}
use Rattle.net.specs.net_step.Step.{after, results, stepped}
use Rattle.net.proofs.Accepted.{accepted}
use Rattle.net.proofs.Cuts.{either_left, shrinks, stays}
use Rattle.net.proofs.Going.{goes-empty, goes-next, goes_spent, goes_steady}
use Rattle.net.proofs.Kept.{AllWords, inside_after, none_empty, words_after_lem}
use Rattle.net.proofs.Reached.{reach, told}
use Rattle.net.proofs.Round.{Quiet, all_still, quiet_next, quiet_start}
use Rattle.net.proofs.net_step.Unchanged.{not_named}

-- the ways to end, told apart
abbrev way : Ended → ℕ
way (Refused n) = 0
way Empty = 1
way Steady = 2
way Spent = 3

apart : {e d : Ended} → eqb (way e) (way d) ≡ false → e ≡ d → ⊥
apart {e} {d} n p = eqb-false (way e) (way d) n (ap way p)

module _ (w : ℕ) (js : List Join) (m : ℕ) where
  -- "steps m then n is steps m + n"
  pub goes_on : (k more : ℕ) (s : Stand) → goes w js m (k + more) s ≡ onward w js m more (goes w js m k s)
  unfolding onward resumed
  goes_on zero more s =
      ⊎_elim (λ e. goes-empty w js m (0 + more) s e ∙ sym (ap (onward w js m more) (goes-empty w js m 0 s e)))
      (λ e.
      elim (dec_le m s.quiet) [
        | yes l ↦ goes_steady w js m s e (0 + more) l ∙ sym (ap (onward w js m more) (goes_steady w js m s e 0 l))
        | no l ↦ ap (λ (n : ℕ). goes w js m n s) (zero-add more) ∙ sym (ap (onward w js m more) (goes_spent w js m s e (omega arith)))
      ])
      (told s.empty)
  goes_on (suc k) more s =
      ⊎_elim (λ e. goes-empty w js m (suc k + more) s e ∙ sym (ap (onward w js m more) (goes-empty w js m (suc k) s e)))
      (λ e.
      elim (dec_le m s.quiet) [
        | yes l ↦ goes_steady w js m s e (suc k + more) l ∙ sym (ap (onward w js m more) (goes_steady w js m s e (suc k) l))
        | no l ↦
            let q : s.quiet < m = omega arith in
            ap (λ (n : ℕ). goes w js m n s) (suc-add k more)
            ∙ goes-next w js m s e q (k + more)
            ∙ goes_on k more (next w js m s)
            ∙ sym (ap (onward w js m more) (goes-next w js m s e q k))
      ])
      (told s.empty)

  -- where a run has not spent its steps, more of them change nothing
  ended : (more : ℕ) (o : Stop) → (o.how ≡ Spent → ⊥) → onward w js m more o ≡ o
  unfolding onward resumed
  ended more o n = go o.how n
    where
      go : (e : Ended) → (e ≡ Spent → ⊥) → resumed e (goes w js m more o.at) o ≡ o
      go (Refused k) d = refl
      go Empty d = refl
      go Steady d = refl
      go Spent d = absurd (d refl)

inside_again : {i j o : Interval} → Inside i j → Inside j o → Inside i o
inside_again p q = record { low = omega arith; high = omega arith }

-- an answer is a refusal, or what the walk gives
either : (net : Net) (pay : ℕ) (P : Answer → Type 0) → ((refusal net ≡ 0 → ⊥) → P (turned_down net (refusal net)))
    → (refusal net ≡ 0 → P (walked net pay)) → P (ran net pay)
unfolding ran
either net pay P down walk =
    elim (ℕ_discrete (refusal net) 0) [
      | yes z ↦ rw (eq-eqb (refusal net) 0 z) (walk z)
      | no n ↦ rw (ne_eqb (refusal net) 0 n) (down n)
    ]

module _ (net : Net) (pay : ℕ) where
  -- two outcomes that satisfy the statement are equal
  pub one_outcome : {r s : Answer} → r ≡ ran net pay → s ≡ ran net pay → r ≡ s
  one_outcome p q = p ∙ sym q

  -- "A refusal gives 0 steps and the intervals as they came."
  pub refusal_gives_back : (refusal net ≡ 0 → ⊥) → ran net pay ≡ record { ended = Refused (refusal net); steps = 0; words = net.words }
  unfolding ran turned_down
  refusal_gives_back n = rw (ne_eqb (refusal net) 0 n)

  -- the number of the answer is that of the refusal, or 0
  pub number_is : number (ran net pay).ended ≡ refusal net
  unfolding turned_down walked shown number
  number_is =
      either net pay (λ r. number r.ended ≡ refusal net) (λ n. refl)
      (λ z.
      reach net.width net.joins net.joined (λ k s. Unit {0}) (λ o. number o.how ≡ refusal net) (λ k s e q h. tt) (λ k s e h. sym z)
      (λ k s e l h. sym z) (λ s e q h. sym z) pay (start net.words) tt)

  -- "never above the given number"
  pub within_pay : (ran net pay).steps ≤ pay
  unfolding turned_down walked shown next start
  within_pay =
      either net pay (λ r. r.steps ≤ pay) (λ n. omega arith)
      (λ z.
      reach net.width net.joins net.joined (λ k s. s.steps + k ≡ pay) (λ o. o.at.steps ≤ pay) (λ k s e q h. omega arith)
      (λ k s e h. omega arith) (λ k s e l h. omega arith) (λ s e q h. omega arith) pay (start net.words) (omega arith))

  -- a run that ended in "spent" used all that was paid for
  pub spent_all : (ran net pay).ended ≡ Spent → (ran net pay).steps ≡ pay
  unfolding turned_down walked shown next start
  spent_all =
      either net pay (λ r. r.ended ≡ Spent → r.steps ≡ pay) (λ n d. absurd (apart refl d))
      (λ z.
      reach net.width net.joins net.joined (λ k s. s.steps + k ≡ pay) (λ o. o.how ≡ Spent → o.at.steps ≡ pay) (λ k s e q h. omega arith)
      (λ k s e h d. absurd (apart refl d)) (λ k s e l h d. absurd (apart refl d)) (λ s e q h d. omega arith) pay (start net.words) (omega arith))

  -- "no interval ever grows"
  pub never_grows : (p : ℕ) → Inside (word_at (ran net pay).words p) (word_at net.words p)
  unfolding turned_down walked shown next stepped start
  never_grows p =
      either net pay (λ r. Inside (word_at r.words p) (word_at net.words p)) (λ n. stays (word_at net.words p))
      (λ z.
      reach net.width net.joins net.joined (λ k s. Inside (word_at s.words p) (word_at net.words p))
      (λ o. Inside (word_at o.at.words p) (word_at net.words p))
      (λ k s e q h.
      let j = turn net.joins net.joined s.steps in
      either_left net.width j s.words (λ vs. Inside (word_at vs p) (word_at net.words p)) h (inside_again (shrinks net.width j s.words p) h))
      (λ k s e h. h) (λ k s e l h. h) (λ s e q h. h) pay (start net.words) (stays (word_at net.words p)))

  -- "a steady net is one that no join can change"
  pub steady_still : (ran net pay).ended ≡ Steady → (k : ℕ) → k < net.joined → Still net.width (join_at net.joins k) (ran net pay).words
  unfolding turned_down walked shown
  steady_still =
      either net pay (λ r. r.ended ≡ Steady → (k : ℕ) → k < net.joined → Still net.width (join_at net.joins k) r.words)
      (λ n d. absurd (apart refl d))
      (λ z.
      reach net.width net.joins net.joined (λ k s. Quiet net.width net.joins net.joined s)
      (λ o. o.how ≡ Steady → (k : ℕ) → k < net.joined → Still net.width (join_at net.joins k) o.at.words)
      (λ k s e q h. quiet_next net.width net.joins net.joined s e h) (λ k s e h d. absurd (apart refl d))
      (λ k s e l h d. all_still net.width net.joins net.joined s e h l) (λ s e q h d. absurd (apart refl d)) pay (start net.words)
      (quiet_start net.width net.joins net.joined net.words))

  -- "Paying more never changes an "empty" or "steady" answer"; nor a refusal
  pub paying_more : (more : ℕ) → ((ran net pay).ended ≡ Spent → ⊥) → ran net (pay + more) ≡ ran net pay
  unfolding ran walked shown
  paying_more more =
      elim (ℕ_discrete (refusal net) 0) [
        | yes z ↦
            rw (eq-eqb (refusal net) 0 z)
            (λ n.
            ap shown
            (goes_on net.width net.joins net.joined pay more (start net.words)
            ∙ ended net.width net.joins net.joined more (goes net.width net.joins net.joined pay (start net.words)) n))
        | no n ↦ rw (ne_eqb (refusal net) 0 n) (λ d. refl)
      ]

  module _ (z : refusal net ≡ 0) where
    walks : ran net pay ≡ walked net pay
    unfolding ran
    walks = rw (eq-eqb (refusal net) 0 z)

    -- "A net without joins answers steady at 0 steps"
    pub no_joins : net.joined ≡ 0 → ran net pay ≡ record { ended = Steady; steps = 0; words = net.words }
    unfolding walked shown start
    no_joins e = walks ∙ ap shown (goes_steady net.width net.joins net.joined (start net.words) refl pay (omega arith))

    -- "with joins and 0 steps to pay, spent"
    pub none_to_pay : 0 < net.joined → pay ≡ 0 → ran net pay ≡ record { ended = Spent; steps = 0; words = net.words }
    unfolding walked shown start
    none_to_pay h e =
        walks
        ∙ ap (walked net) e
        ∙ ap shown (goes_spent net.width net.joins net.joined (start net.words) refl h)

    -- a "spent" run goes on from where it stood
    pub spent_goes_on : (more : ℕ) → ran net (pay + more)
        ≡ shown (onward net.width net.joins net.joined more (goes net.width net.joins net.joined pay (start net.words)))
    unfolding ran walked
    spent_goes_on more =
        rw (eq-eqb (refusal net) 0 z) (ap shown (goes_on net.width net.joins net.joined pay more (start net.words)))

  -- the join whose turn it is names words in use
  turn_named : (z : refusal net ≡ 0) (s : Stand) → s.quiet < net.joined → Named net.count (turn net.joins net.joined s.steps)
  unfolding turn
  turn_named z s q = (accepted z).names _ (mod-lt s.steps (omega arith))

  -- places not in use are left as they came
  pub not_in_use : (p : ℕ) → net.count ≤ p → word_at (ran net pay).words p ≡ word_at net.words p
  unfolding turned_down walked shown next stepped start after
  not_in_use p l =
      either net pay (λ r. word_at r.words p ≡ word_at net.words p) (λ n. refl)
      (λ z.
      reach net.width net.joins net.joined (λ k s. word_at s.words p ≡ word_at net.words p) (λ o. word_at o.at.words p ≡ word_at net.words p)
      (λ k s e q h.
      let j = turn net.joins net.joined s.steps in
      let n = turn_named z s q in
      let out = not_named j (results net.width j s.words) s.words p (λ d. omega (arith, n.h)) (λ d. omega (arith, n.x)) (λ d. omega (arith, n.y)) in
      either_left net.width j s.words (λ vs. word_at vs p ≡ word_at net.words p) h (out ∙ h))
      (λ k s e h. h) (λ k s e l h. h) (λ s e q h. h) pay (start net.words) refl)

  module _ (v : ℕ → ℕ) (a : Solution net v) where
    turn_holds : (s : Stand) → s.quiet < net.joined →
        let j = turn net.joins net.joined s.steps in
        v j.h ≡ result net.width j.op (v j.x) (v j.y)
    unfolding turn
    turn_holds s q = a.joins _ (mod-lt s.steps (omega arith))

    -- where a run with a solution stands: no cut was empty, the solution lies inside, and there are words in every interval in use
    record Holds (s : Stand) : Type 0 where
      full : s.empty ≡ false
      inside : AllIn net.count s.words v
      words : AllWords net.width net.count s.words

    holds_next : refusal net ≡ 0 → (s : Stand) → s.quiet < net.joined → Holds s → Holds (next net.width net.joins net.joined s)
    unfolding next stepped
    holds_next z s q h =
        let j = turn net.joins net.joined s.steps in
        let w = (accepted z).width in
        let n = turn_named z s q in
        let e = none_empty j s.words w n h.words v h.inside (turn_holds s q) in
        let inside = inside_after j s.words w n h.words v h.inside (turn_holds s q) in
        record {
          full = e;
          inside = either_left net.width j s.words (λ vs. AllIn net.count vs v) h.inside inside;
          words = either_left net.width j s.words (AllWords net.width net.count) h.words (words_after_lem j s.words w n h.words e);
        }

    -- "No assignment inside the given intervals that satisfies all joins is lost": the answer is not "empty", and the assignment lies
    -- inside the intervals that are given back
    pub kept : ((ran net pay).ended ≡ Empty → ⊥) × AllIn net.count (ran net pay).words v
    unfolding turned_down walked shown start
    kept =
        either net pay (λ r. (r.ended ≡ Empty → ⊥) × AllIn net.count r.words v) (λ n. (apart refl, a.inside))
        (λ z.
        reach net.width net.joins net.joined (λ k s. Holds s) (λ o. (o.how ≡ Empty → ⊥) × AllIn net.count o.at.words v)
        (λ k s e q h. holds_next z s q h) (λ k s e h. absurd (true≢false (sym e ∙ h.full))) (λ k s e l h. (apart refl, h.inside))
        (λ s e q h. (apart refl, h.inside)) pay (start net.words) (record { full = refl; inside = a.inside; words = (accepted z).intervals }))

  -- so where the answer is "empty" there is none
  pub empty_none : (ran net pay).ended ≡ Empty → (v : ℕ → ℕ) → Solution net v → ⊥
  empty_none e v a = (kept v a).0 e
