-- Places not in use are not read: two nets that agree on the words and joins in use answer alike, for what a step finds at the places
-- that its join names is the same, and what it leaves there. Assumes nothing.
use mathlib.Core.Path.{◌≡◌, refl, sym, ap, ap₂, subst, subst⁻¹, ◌∙◌}
use mathlib.Core.Bool.{Bool, true, false, not, ◌&&◌, cond, false≢true}
use mathlib.Core.List.{List}
use mathlib.Core.Logic.{⊎_elim}
use Prim.Native.Nat.{ℕ, zero, suc, ◌%◌, ◌≤◌, ◌<◌}
use native.Mathlib.Decide.{dec_le, dec_lt, ℕ_discrete}
use native.Mathlib.Nat.{mod-lt}
use native.Mathlib.Omega.{arith}
use borrow.Author.Tests.{eq-eqb, ne_eqb}
use lib.ListN.{length, length-set}
use lib.Seq.{get_or-set_same, set_out}
use Rattle.word.specs.Word.{top}
use Rattle.span.specs.declared.interval.Interval.{Interval}
use Rattle.span.specs.declared.interval.Op.{Op}
use Rattle.span.specs.declared.interval.Op.TheVariants.{And, Not, Or, Xor}
use Rattle.span.specs.interval.Interval.{cut, hollow, interval, within}
use Rattle.net.specs.declared.Ended.{Ended}
use Rattle.net.specs.declared.Ended.TheVariants.{Empty, Spent, Steady}
use Rattle.net.specs.declared.net_step.Join.{Join}
use Rattle.net.specs.declared.Net.{Net}
use Rattle.net.specs.Demand.{Alike, SameAnswer, SameJoin, SameWords, refilled}
use Rattle.net.specs.net_step.Named.{Named, named, place_of, third, word_at}
use Rattle.net.specs.net_tests.Fits.{every, fits, join_at}
use Rattle.net.specs.Net.{refusal, turn, turned_down}
use Rattle.net.specs.route.Run.{Stop, goes, next, ran, shown, stand, start, stop, walked}
use Rattle.net.specs.net_step.Step.{after, cut_all, cut_at, emptied, left, no_word, results, stepped, unchanged}
use Rattle.net.proofs.Accepted.{accepted}
use Rattle.net.proofs.Going.{goes-empty, goes-next, goes_spent, goes_steady}
use Rattle.net.proofs.Reached.{told}
use Rattle.net.proofs.net_step.Unchanged.{elsewhere, tested, unchanged_self}

every_same : (n : ℕ) (f g : ℕ → Bool) → ((k : ℕ) → k < n → f k ≡ g k) → every n f ≡ every n g
unfolding every
every_same zero f g h = refl
every_same (suc n) f g h = ap₂ (λ (a b : Bool). a && b) (h n (omega arith)) (every_same n f g (λ k l. h k (omega arith)))

abbrev is_not : Op → Bool
is_not Not = true
is_not And = false
is_not Or = false
is_not Xor = false

pub no_not : {op : Op} → is_not op ≡ false → op ≡ Not → ⊥
no_not f e = false≢true (sym f ∙ ap is_not e)

-- a NOT's y isn't read
third_place : (op : Op) (x y v : ℕ) → ((op ≡ Not → ⊥) → y ≡ v) → place_of op x y ≡ place_of op x v
unfolding place_of
third_place Not x y v f = refl
third_place And x y v f = f (no_not refl)
third_place Or x y v f = f (no_not refl)
third_place Xor x y v f = f (no_not refl)

same_third : {j k : Join} → SameJoin j k → third j ≡ third k
unfolding third
same_third {j} {k} s =
    third_place j.op j.x j.y k.y s.y ∙ ap₂ (λ (o : Op) (x : ℕ). place_of o x k.y) s.op s.x

-- a word cut alike in both
cut_same : (n k : ℕ) (i : Interval) {ws vs : List Interval} → k < n → SameWords n ws vs → SameWords n (cut_at k i ws) (cut_at k i vs)
unfolding cut_at
cut_same n k i {ws} {vs} l s =
    record { places = length-set ws k _ ∙ s.places ∙ sym (length-set vs k _); words = at }
  where
    new : (us : List Interval) → k < length us → word_at (cut_at k i us) k ≡ cut (word_at us k) i
    new us b = get_or-set_same us k _ (interval 0 0) b

    old : (us : List Interval) → length us ≤ k → cut_at k i us ≡ us
    old us b = set_out us k _ b

    here : word_at (cut_at k i ws) k ≡ word_at (cut_at k i vs) k
    here =
        elim (dec_lt k (length ws)) [
          | yes b ↦ new ws b ∙ ap (λ (o : Interval). cut o i) (s.words k l) ∙ sym (new vs (omega (arith, s.places)))
          | no b ↦
              ap (λ (us : List Interval). word_at us k) (old ws (omega arith))
              ∙ s.words k l
              ∙ sym (ap (λ (us : List Interval). word_at us k) (old vs (omega (arith, s.places))))
        ]

    at : (p : ℕ) → p < n → word_at (cut_at k i ws) p ≡ word_at (cut_at k i vs) p
    at p b =
        elim (ℕ_discrete p k) [
          | yes e ↦ subst⁻¹ (λ (q : ℕ). word_at (cut_at k i ws) q ≡ word_at (cut_at k i vs) q) e here
          | no e ↦ elsewhere k i ws p e ∙ s.words p b ∙ sym (elsewhere k i vs p e)
        ]

-- one step of joins that are read alike, on words that are alike
module _ (w n : ℕ) {j k : Join} {ws vs : List Interval} (names : Named n j) (read : SameJoin j k) (s : SameWords n ws vs) where
  at_h : word_at ws j.h ≡ word_at vs k.h
  at_h = s.words j.h names.h ∙ ap (word_at vs) read.h

  at_x : word_at ws j.x ≡ word_at vs k.x
  at_x = s.words j.x names.x ∙ ap (word_at vs) read.x

  at_y : word_at ws (third j) ≡ word_at vs (third k)
  at_y = s.words (third j) names.y ∙ ap (word_at vs) (same_third read)

  same_results : results w j ws ≡ results w k vs
  unfolding results
  same_results = rw (at_y, at_h, at_x, read.op) refl

  same_after : SameWords n (after w j ws) (after w k vs)
  unfolding after cut_all
  same_after =
      rw (sym same_results, sym (same_third read), sym read.h, sym read.x)
      (cut_same n (third j) _ names.y (cut_same n j.x _ names.x (cut_same n j.h _ names.h s)))

  new_h : word_at (after w j ws) j.h ≡ word_at (after w k vs) k.h
  new_h = same_after.words j.h names.h ∙ ap (word_at (after w k vs)) read.h

  new_x : word_at (after w j ws) j.x ≡ word_at (after w k vs) k.x
  new_x = same_after.words j.x names.x ∙ ap (word_at (after w k vs)) read.x

  new_y : word_at (after w j ws) (third j) ≡ word_at (after w k vs) (third k)
  new_y = same_after.words (third j) names.y ∙ ap (word_at (after w k vs)) (same_third read)

  same_emptied : emptied w j ws ≡ emptied w k vs
  unfolding emptied no_word
  same_emptied = rw (same_results, new_h, new_x, new_y) refl

  same_quiet : unchanged ws (after w j ws) ≡ unchanged vs (after w k vs)
  unfolding after
  same_quiet =
      sym (tested j (results w j ws) ws) ∙ rw (at_h, at_x, at_y, new_h, new_x, new_y) (tested k (results w k vs) vs)

  same_left : SameWords n (left w j ws) (left w k vs)
  unfolding left
  same_left = subst (λ (b : Bool). SameWords n (left w j ws) (cond b vs (after w k vs))) same_emptied (go (emptied w j ws))
    where
      go : (b : Bool) → SameWords n (cond b ws (after w j ws)) (cond b vs (after w k vs))
      go true = s
      go false = same_after

  same_unchanged : unchanged ws (left w j ws) ≡ unchanged vs (left w k vs)
  unfolding left
  same_unchanged = subst (λ (b : Bool). unchanged ws (left w j ws) ≡ unchanged vs (cond b vs (after w k vs))) same_emptied (go (emptied w j ws))
    where
      go : (b : Bool) → unchanged ws (cond b ws (after w j ws)) ≡ unchanged vs (cond b vs (after w k vs))
      go true = unchanged_self ws ∙ sym (unchanged_self vs)
      go false = same_quiet

same_named : (n : ℕ) {j k : Join} → SameJoin j k → named n j ≡ named n k
unfolding named
same_named n s = rw (same_third s, s.h, s.x) refl

module _ (net : Net) {vs : List Interval} {ks : List Join} (a : Alike net vs ks) where
  same_refusal : refusal net ≡ refusal (refilled net vs ks)
  unfolding refusal fits
  same_refusal =
      rw (
        every_same net.joined (λ k. named net.count (join_at net.joins k)) (λ k. named net.count (join_at ks k))
            (λ k l. same_named net.count (a.joins k l)),
        every_same net.count (λ k. within (top net.width) (word_at net.words k)) (λ k. within (top net.width) (word_at vs k))
            (λ k l. ap (within (top net.width)) (a.words.words k l)),
        every_same net.count (λ k. not (hollow (word_at net.words k))) (λ k. not (hollow (word_at vs k)))
            (λ k l. ap (λ (i : Interval). not (hollow i)) (a.words.words k l)),
      )
      refl

  -- where two runs stop alike, at stands that differ in words not in use
  stopped : (how : Ended) {ws us : List Interval} (n q : ℕ) (e : Bool) → SameWords net.count ws us → {o p : Stop} → o ≡ stop how (stand ws n q e)
      → p ≡ stop how (stand us n q e) → SameAnswer net.count (shown o) (shown p)
  unfolding shown
  stopped how n q e s d c = rw (d, c) (record { ended = refl; steps = refl; words = s })

  module _ (z : refusal net ≡ 0) where
    -- the step that is next
    stepped_alike : (ws us : List Interval) (n q : ℕ) (e : Bool) → q < net.joined → SameWords net.count ws us → (k : ℕ)
        → ((vs₁ vs₂ : List Interval) (p : ℕ) (d : Bool) → SameWords net.count vs₁ vs₂
        → SameAnswer net.count (shown (goes net.width net.joins net.joined k (stand vs₁ (suc n) p d)))
        (shown (goes net.width ks net.joined k (stand vs₂ (suc n) p d))))
        → SameAnswer net.count (shown (goes net.width net.joins net.joined k (next net.width net.joins net.joined (stand ws n q e))))
        (shown (goes net.width ks net.joined k (next net.width ks net.joined (stand us n q e))))
    unfolding next stepped turn
    stepped_alike ws us n q e l s k h =
        let b : n % net.joined < net.joined = mod-lt n (omega arith) in
        let names = (accepted z).names _ b in
        let read = a.joins _ b in
        rw (same_unchanged net.width net.count names read s, same_emptied net.width net.count names read s)
        (h _ _ _ _ (same_left net.width net.count names read s))

    -- with so many steps to pay for, from two such stands
    goes_alike : (k : ℕ) (ws us : List Interval) (n q : ℕ) (e : Bool) → SameWords net.count ws us
        → SameAnswer net.count (shown (goes net.width net.joins net.joined k (stand ws n q e)))
        (shown (goes net.width ks net.joined k (stand us n q e)))
    goes_alike zero ws us n q e s =
        ⊎_elim (λ t. stopped Empty n q e s (goes-empty _ _ _ 0 _ t) (goes-empty _ _ _ 0 _ t))
        (λ f.
        elim (dec_le net.joined q) [
          | yes l ↦ stopped Steady n q e s (goes_steady _ _ _ _ f 0 l) (goes_steady _ _ _ _ f 0 l)
          | no l ↦ stopped Spent n q e s (goes_spent _ _ _ _ f (omega arith)) (goes_spent _ _ _ _ f (omega arith))
        ])
        (told e)
    goes_alike (suc k) ws us n q e s =
        ⊎_elim (λ t. stopped Empty n q e s (goes-empty _ _ _ (suc k) _ t) (goes-empty _ _ _ (suc k) _ t))
        (λ f.
        elim (dec_le net.joined q) [
          | yes l ↦ stopped Steady n q e s (goes_steady _ _ _ _ f (suc k) l) (goes_steady _ _ _ _ f (suc k) l)
          | no l ↦
              let b : q < net.joined = omega arith in
              rw (goes-next net.width net.joins net.joined (stand ws n q e) f b k, goes-next net.width ks net.joined (stand us n q e) f b k)
              (stepped_alike ws us n q e b s k (λ vs₁ vs₂ p d. goes_alike k vs₁ vs₂ (suc n) p d))
        ])
        (told e)

  -- two nets that agree on the words and joins in use answer alike
  pub answers_alike : (pay : ℕ) → SameAnswer net.count (ran net pay) (ran (refilled net vs ks) pay)
  unfolding ran walked turned_down start
  answers_alike pay =
      elim (ℕ_discrete (refusal net) 0) [
        | yes z ↦
            rw (sym same_refusal, eq-eqb (refusal net) 0 z)
            (goes_alike z pay net.words vs 0 0 false a.words)
        | no n ↦
            rw (sym same_refusal, ne_eqb (refusal net) 0 n)
            (record { ended = refl; steps = refl; words = a.words })
      ]
