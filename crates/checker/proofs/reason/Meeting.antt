-- The smallest word of a link that passes: where the first fails it is the one after the run around it, and else it is the next that
-- passes, where that comes no later than the link's end. Assumes nothing.
use mathlib.Core.Path.{◌≡◌, refl, sym, ap, ◌∙◌}
use mathlib.Core.Bool.{Bool, true, false, false≢true}
use mathlib.Core.Logic.{◌⊎◌, inl, inr}
use Prim.Native.Nat.{ℕ, suc, ◌+◌, ◌-◌, ◌≤◌, ◌<◌}
use native.Mathlib.Nat.{le_refl}
use native.Mathlib.Omega.{arith}
use borrow.Author.Tests.{le-ltb}
use Rattle.std.specs.Prelude.{Option}
use Rattle.std.specs.Prelude.{Some, None}
use Rattle.word.specs.Search.{climb, first}
use Rattle.word.proofs.Climb.{all_miss, climb_is}
use Rattle.word.proofs.Search.{first_at, first_none}
use Rattle.word.proofs.Searched.{first_is, first_nothing}
use Rattle.chain.specs.declared.Link.{Link}
use Rattle.checker.proofs.covering.EveryWord.{misses, next_after, none_after}
use Rattle.checker.specs.finding.Clauses.{smallest, the_word}
use Rattle.checker.specs.finding.First.{IsSmallest}

module _ (f : ℕ → Bool) (p q : ℕ) where
  -- the search says whether every word misses
  pub some_pass : (x : ℕ) → first f (suc q - p) p ≡ Some x → misses f p q ≡ false
  some_pass x e =
      let i = first_is f (suc q - p) p x e in
      sym (next_after f p q (suc q - p) x e) ∙ le-ltb q x (omega (arith, i.low, i.high))

  pub none_pass : first f (suc q - p) p ≡ None → misses f p q ≡ true
  none_pass e = sym (none_after f p q q (le_refl q) e)

  module _ (t : ℕ) (order : p ≤ q) (word : q ≤ t) where
    pub at_once : f p ≡ true → Some p ≡ first f (suc q - p) p
    at_once e = sym (first_at f (suc q - p) p p (le_refl p) (omega arith) e (λ y a b. absurd (omega arith)))

    module _ (miss : f p ≡ false) where
      pub run_covers : q ≤ climb f (t - p) p → None ≡ first f (suc q - p) p
      run_covers h =
          let c = climb_is f (t - p) p t (omega arith) in
          sym (first_none f (suc q - p) p (λ y a b. all_miss f c miss y a (omega arith)))

      pub after_run : climb f (t - p) p < q → Some (climb f (t - p) p + 1) ≡ first f (suc q - p) p
      after_run h =
          let c = climb_is f (t - p) p t (omega arith) in
          let one : climb f (t - p) p + 1 ≡ suc (climb f (t - p) p) = omega arith in
          ap Some one ∙ sym (first_at f (suc q - p) p (suc (climb f (t - p) p)) (omega (arith, c.order)) (omega (arith, c.order)) (go c.stop) (λ y a b. all_miss f c miss y a (omega arith)))
        where
          go : (climb f (t - p) p ≡ t) ⊎ (f (suc (climb f (t - p) p)) ≡ true) → f (suc (climb f (t - p) p)) ≡ true
          go (inl e) = absurd (omega arith)
          go (inr e) = e

    pub next_within : (x : ℕ) → first f (suc t - p) p ≡ Some x → x ≤ q → Some x ≡ first f (suc q - p) p
    next_within x e h =
        let i = first_is f (suc t - p) p x e in
        sym (first_at f (suc q - p) p x i.low (omega (arith, i.low)) i.passes i.none_before)

    pub next_past : (x : ℕ) → first f (suc t - p) p ≡ Some x → q < x → None ≡ first f (suc q - p) p
    next_past x e h =
        let i = first_is f (suc t - p) p x e in
        sym (first_none f (suc q - p) p (λ y a b. i.none_before y a (omega arith)))

    pub no_next : first f (suc t - p) p ≡ None → None ≡ first f (suc q - p) p
    no_next e = sym (first_none f (suc q - p) p (λ y a b. first_nothing f (suc t - p) p e y a (omega arith)))

-- the word that is told of a link of which some word passes
pub told_smallest : (f : ℕ → Bool) (l : Link) → misses f l.from l.to ≡ false → IsSmallest f l (smallest f l)
unfolding smallest the_word
told_smallest f l n = go (first f (suc l.to - l.from) l.from) refl
  where
    go : (o : Option ℕ) → first f (suc l.to - l.from) l.from ≡ o → IsSmallest f l (the_word (first f (suc l.to - l.from) l.from))
    go (Some x) e =
        let i = first_is f (suc l.to - l.from) l.from x e in
        rw (e) (record { low = i.low; high = omega (arith, i.low, i.high); passes = i.passes; least = i.none_before })
    go None e = absurd (false≢true (sym n ∙ none_pass f l.from l.to e))
