-- A run stops as the plain rule says, and no other answer does: the count of quiet steps is the length of the longest row of steps that
-- changed nothing, up to where the run stands, and nothing gave a reason to stop before. Assumes nothing.
use mathlib.Core.Path.{◌≡◌, refl, sym, ap, subst, subst⁻¹, ◌∙◌}
use mathlib.Core.Bool.{Bool, true, false, cond, true≢false}
use mathlib.Core.List.{List}
use mathlib.Core.Logic.{⊎_elim}
use Prim.Native.Nat.{ℕ, zero, suc, ◌+◌, ◌≤◌, ◌<◌}
use native.Mathlib.Decide.{dec_lt, ℕ_discrete}
use native.Mathlib.Omega.{arith}
use borrow.Author.Tests.{eq-eqb}
use Rattle.span.specs.declared.interval.Interval.{Interval}
use Rattle.net.specs.declared.Answer.{Answer}
use Rattle.net.specs.declared.Ended.{Ended}
use Rattle.net.specs.declared.Ended.TheVariants.{Empty, Refused, Spent, Steady}
use Rattle.net.specs.declared.net_step.Join.{Join}
use Rattle.net.specs.declared.Net.{Net}
use Rattle.net.specs.Net.{given, number, refusal, turn}
use Rattle.net.specs.Plain.{QuietFor, Reason, Stops, empty_at, order, words_after}
use Rattle.net.specs.route.Run.{Stand, next, ran, shown, start, stop, walked}
use Rattle.net.specs.net_step.Step.{emptied, left, stepped, unchanged}
use Rattle.net.proofs.Outcome.{number_is}
use Rattle.net.proofs.Reached.{reach, told}
use Rattle.net.proofs.net_step.Unchanged.{unchanged_equal, unchanged_self}

module _ (net : Net) where
  -- q is the longest row of steps, up to n, that changed nothing
  record Longest (n q : ℕ) : Type 0 where
    row : QuietFor net n q
    most : (p : ℕ) → QuietFor net n p → p ≤ q

  -- a row without its last step
  shorter : (n p : ℕ) → QuietFor net (suc n) (suc p) → QuietFor net n p
  shorter n p h = record { taken = omega (arith, h.taken); same = λ i a b. h.same i (omega arith) (omega arith) }

  longest_start : Longest 0 0
  longest_start = record { row = record { taken = omega arith; same = λ i a b. absurd (omega arith) }; most = λ p h. h.taken }

  longer : (n q : ℕ) → words_after net (suc n) ≡ words_after net n → Longest n q → Longest (suc n) (suc q)
  longer n q e l = record { row = record { taken = omega (arith, l.row.taken); same = same }; most = most }
    where
      same : (i : ℕ) → i < suc n → suc n ≤ i + suc q → words_after net (suc i) ≡ words_after net i
      same i a b =
          elim (ℕ_discrete i n) [
            | yes d ↦ subst⁻¹ (λ (k : ℕ). words_after net (suc k) ≡ words_after net k) d e
            | no d ↦ l.row.same i (omega arith) (omega arith)
          ]

      most : (p : ℕ) → QuietFor net (suc n) p → p ≤ suc q
      most zero h = omega arith
      most (suc p) h = omega (arith, l.most p (shorter n p h))

  broken : (n : ℕ) → (words_after net (suc n) ≡ words_after net n → ⊥) → Longest (suc n) 0
  broken n d = record { row = record { taken = omega arith; same = λ i a b. absurd (omega arith) }; most = most }
    where
      most : (p : ℕ) → QuietFor net (suc n) p → p ≤ 0
      most zero h = omega arith
      most (suc p) h = absurd (d (h.same n (omega arith) (omega arith)))

  -- the count after one more step
  counted : (n q : ℕ) → Longest n q → Longest (suc n) (cond (unchanged (words_after net n) (words_after net (suc n))) (suc q) 0)
  counted n q l =
      ⊎_elim
      (λ t.
      subst⁻¹ (λ (b : Bool). Longest (suc n) (cond b (suc q) 0)) t
      (longer n q (sym (unchanged_equal (words_after net n) (words_after net (suc n)) t)) l))
      (λ t.
      subst⁻¹ (λ (b : Bool). Longest (suc n) (cond b (suc q) 0)) t
      (broken n
      (λ e.
      true≢false
      (sym (subst⁻¹ (λ (vs : List Interval). unchanged (words_after net n) vs ≡ true) e (unchanged_self (words_after net n))) ∙ t))))
      (told (unchanged (words_after net n) (words_after net (suc n))))

  module _ (pay : ℕ) where
    -- where a run stands with k steps left to pay for, the plain rule stands too, and has found no reason to stop
    record Stands (k : ℕ) (s : Stand) : Type 0 where
      paid : s.steps + k ≡ pay
      words : s.words ≡ words_after net s.steps
      empty : s.empty ≡ empty_at net s.steps
      quiet : Longest s.steps s.quiet
      none : (n : ℕ) → n < s.steps → (e : Ended) → Reason net pay n e → ⊥

    module _ (k : ℕ) (s : Stand) (h : Stands k s) (f : s.empty ≡ false) where
      not_empty : Reason net pay s.steps Empty → ⊥
      unfolding Reason
      not_empty r = true≢false (sym r ∙ sym h.empty ∙ f)

      module _ (q : s.quiet < net.joined) where
        not_steady : Reason net pay s.steps Steady → ⊥
        unfolding Reason
        not_steady r = absurd (omega (arith, h.quiet.most net.joined r, q))

    no_reason : (k : ℕ) (s : Stand) → Stands (suc k) s → s.empty ≡ false → s.quiet < net.joined → (e : Ended) → Reason net pay s.steps e → ⊥
    unfolding Reason
    no_reason k s h f q Empty r = not_empty (suc k) s h f r
    no_reason k s h f q Steady r = not_steady (suc k) s h f q r
    no_reason k s h f q Spent r = absurd (omega (arith, h.paid, r))
    no_reason k s h f q (Refused n) r = r

    stands_next : (k : ℕ) (s : Stand) → s.empty ≡ false → s.quiet < net.joined → Stands (suc k) s
        → Stands k (next net.width net.joins net.joined s)
    unfolding next stepped words_after empty_at
    stands_next k s f q h =
        record {
          paid = omega (arith, h.paid);
          words = ap (left net.width j) h.words;
          empty = ap (emptied net.width j) h.words;
          quiet = subst⁻¹ (λ (vs : List Interval). Longest (suc s.steps) (cond (unchanged vs (left net.width j vs)) (suc s.quiet) 0)) h.words
              (counted s.steps s.quiet h.quiet);
          none = none;
        }
      where
        j : Join
        j = turn net.joins net.joined s.steps

        none : (n : ℕ) → n < suc s.steps → (e : Ended) → Reason net pay n e → ⊥
        none n l e r =
            elim (ℕ_discrete n s.steps) [
              | yes d ↦ no_reason k s h f q e (subst (λ (i : ℕ). Reason net pay i e) d r)
              | no d ↦ h.none n (omega arith) e r
            ]

    stops_empty : (k : ℕ) (s : Stand) → s.empty ≡ true → Stands k s → Stops net pay (shown (stop Empty s))
    unfolding shown Reason order
    stops_empty k s e h = record { reason = sym h.empty ∙ e; first = h.none; earlier = earlier; words = h.words }
      where
        earlier : (d : Ended) → order d < 1 → Reason net pay s.steps d → ⊥
        earlier Empty l r = absurd (omega arith)
        earlier Steady l r = absurd (omega arith)
        earlier Spent l r = absurd (omega arith)
        earlier (Refused n) l r = r

    stops_steady : (k : ℕ) (s : Stand) → s.empty ≡ false → net.joined ≤ s.quiet → Stands k s → Stops net pay (shown (stop Steady s))
    unfolding shown Reason order
    stops_steady k s f q h = record { reason = reason; first = h.none; earlier = earlier; words = h.words }
      where
        reason : QuietFor net s.steps net.joined
        reason =
            let r = h.quiet.row in
            record { taken = omega (arith, q, r.taken); same = λ i a b. r.same i a (omega (arith, q, b)) }

        earlier : (d : Ended) → order d < 2 → Reason net pay s.steps d → ⊥
        earlier Empty l r = not_empty k s h f r
        earlier Steady l r = absurd (omega arith)
        earlier Spent l r = absurd (omega arith)
        earlier (Refused n) l r = r

    stops_spent : (s : Stand) → s.empty ≡ false → s.quiet < net.joined → Stands 0 s → Stops net pay (shown (stop Spent s))
    unfolding shown Reason order
    stops_spent s f q h = record { reason = omega (arith, h.paid); first = h.none; earlier = earlier; words = h.words }
      where
        earlier : (d : Ended) → order d < 3 → Reason net pay s.steps d → ⊥
        earlier Empty l r = not_empty 0 s h f r
        earlier Steady l r = not_steady 0 s h f q r
        earlier Spent l r = absurd (omega arith)
        earlier (Refused n) l r = r

    stands_start : Stands pay (start net.words)
    unfolding start words_after empty_at
    stands_start =
        record { paid = omega arith; words = refl; empty = refl; quiet = longest_start; none = λ n l e r. absurd (omega arith) }

    -- "the steps used, equal to those of the plain rule just given"
    pub ran_stops : refusal net ≡ 0 → Stops net pay (ran net pay)
    unfolding ran walked
    ran_stops z =
        rw (eq-eqb (refusal net) 0 z)
        (reach net.width net.joins net.joined Stands (λ o. Stops net pay (shown o)) stands_next stops_empty stops_steady stops_spent
        pay (start net.words) stands_start)

    -- a reason is known by its place in the list
    same_reason : (n : ℕ) (e d : Ended) → order e ≡ order d → Reason net pay n e → e ≡ d
    unfolding order Reason
    same_reason n Empty Empty o r = refl
    same_reason n Steady Steady o r = refl
    same_reason n Spent Spent o r = refl
    same_reason n Empty Steady o r = absurd (omega arith)
    same_reason n Empty Spent o r = absurd (omega arith)
    same_reason n Empty (Refused k) o r = absurd (omega arith)
    same_reason n Steady Empty o r = absurd (omega arith)
    same_reason n Steady Spent o r = absurd (omega arith)
    same_reason n Steady (Refused k) o r = absurd (omega arith)
    same_reason n Spent Empty o r = absurd (omega arith)
    same_reason n Spent Steady o r = absurd (omega arith)
    same_reason n Spent (Refused k) o r = absurd (omega arith)
    same_reason n (Refused k) d o r = absurd r

    module _ {r s : Answer} (a : Stops net pay r) (b : Stops net pay s) where
      same_steps : r.steps ≡ s.steps
      same_steps =
          elim (dec_lt r.steps s.steps) [
            | yes l ↦ absurd (b.first r.steps l r.ended a.reason)
            | no l ↦
                elim (dec_lt s.steps r.steps) [
                  | yes g ↦ absurd (a.first s.steps g s.ended b.reason)
                  | no g ↦ omega arith
                ]
          ]

      same_end : r.ended ≡ s.ended
      same_end =
          elim (dec_lt (order r.ended) (order s.ended)) [
            | yes l ↦ absurd (b.earlier r.ended l (subst (λ (n : ℕ). Reason net pay n r.ended) same_steps a.reason))
            | no l ↦
                elim (dec_lt (order s.ended) (order r.ended)) [
                  | yes g ↦ absurd (a.earlier s.ended g (subst⁻¹ (λ (n : ℕ). Reason net pay n s.ended) same_steps b.reason))
                  | no g ↦ same_reason r.steps r.ended s.ended (omega arith) a.reason
                ]
          ]

      -- no two answers stop as the plain rule says
      pub stops_once : r ≡ s
      stops_once = rw (sym same_end, b.words, a.words, sym same_steps) refl

    -- so that the plain rule decides the answer
    pub stops_so : refusal net ≡ 0 → {r : Answer} → Stops net pay r → r ≡ ran net pay
    stops_so z a = stops_once a (ran_stops z)

  -- a step that ends in "empty" leaves the intervals from before it
  stays : (k : ℕ) → empty_at net (suc k) ≡ true → words_after net (suc k) ≡ words_after net k
  unfolding words_after empty_at left
  stays k e = rw e refl

  -- where a run ends "empty" at step k + 1, paying k gives "spent" with the same words
  pub one_step_less : (pay k : ℕ) → (ran net pay).ended ≡ Empty → (ran net pay).steps ≡ suc k → ran net k ≡ given Spent k (ran net pay).words
  unfolding Reason order number
  one_step_less pay k e d = sym (stops_so k z (record { reason = refl; first = first; earlier = earlier; words = words }))
    where
      z : refusal net ≡ 0
      z = sym (number_is net pay) ∙ ap number e

      a : Stops net pay (ran net pay)
      a = ran_stops pay z

      first : (n : ℕ) → n < k → (o : Ended) → Reason net k n o → ⊥
      first n l Empty r = a.first n (omega (arith, d, l)) Empty r
      first n l Steady r = a.first n (omega (arith, d, l)) Steady r
      first n l Spent r = absurd (omega (arith, l, r))
      first n l (Refused i) r = r

      earlier : (o : Ended) → order o < 3 → Reason net k k o → ⊥
      earlier Empty l r = a.first k (omega (arith, d)) Empty r
      earlier Steady l r = a.first k (omega (arith, d)) Steady r
      earlier Spent l r = absurd (omega arith)
      earlier (Refused i) l r = r

      words : (ran net pay).words ≡ words_after net k
      words =
          a.words
          ∙ ap (words_after net) d
          ∙ stays k (subst (λ (n : ℕ). Reason net pay n Empty) d (subst (Reason net pay (ran net pay).steps) e a.reason))
