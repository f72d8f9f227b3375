-- The link at a word that does not fit is the one that the paper takes: the rule of furthest reach where one fails, from where
-- its run starts, and else, as only form 7 can keep the word from fitting, the words up to the next that meets it. Assumes
-- nothing.
use mathlib.Core.Path.{◌≡◌, refl, sym, ap, ◌∙◌, subst}
use mathlib.Core.Bool.{Bool, true, false}
use mathlib.Core.Logic.{inl, inr}
use mathlib.Core.List.{List}
use Prim.Native.Nat.{ℕ, zero, suc, ◌+◌, ◌-◌, ◌≤◌, ◌<◌}
use native.Mathlib.Nat.{le_of_eq, le_refl}
use native.Mathlib.Decide.{dec_lt}
use native.Mathlib.Omega.{arith}
use lib.ListN.{length}
use Rattle.word.specs.Word.{top}
use Rattle.word.specs.Search.{climb, first}
use Rattle.word.proofs.Climb.{Climbed, all_miss, climb_is}
use Rattle.word.proofs.Sink.{Sunk, sink_is}
use Rattle.rule.specs.declared.Rule.{Rule}
use Rattle.rule.specs.Meaning.{fits, meets, meets7, start}
use Rattle.chain.specs.declared.Far.{Far}
use Rattle.chain.specs.declared.Far.TheVariants.{To, Nowhere}
use Rattle.chain.specs.Chain.{BitsLink, Fails, Plain, RuleLink, Starts, Taken}
use Rattle.chain.specs.declared.Link.{Link}
use Rattle.chain.specs.Links.{before, furthest, gap, link_at, link_by, nth}
use Rattle.chain.proofs.Failing.{bits_only}
use Rattle.chain.proofs.Furthest.{Best, Held, furthest_held}

-- a link at p starts at or below p, and goes from there to a word
pub taken_from : {w p : ℕ} {rs : List Rule} {l : Link} → Taken w rs p l → l.from ≤ p
taken_from (inl (r, s)) = s.fails.order
taken_from (inr (e, s, b)) = le_of_eq s

pub taken_order : {w p : ℕ} {rs : List Rule} {l : Link} → Taken w rs p l → (p ≤ l.to) × (l.to ≤ top w)
taken_order (inl (r, s)) = (r.fails.order, r.fails.word)
taken_order (inr (e, s, b)) = (b.lacks.order, b.lacks.word)

-- one less than the first word that passes is as far as one can go
before_first : (t : ℕ) (f : ℕ → Bool) (k p : ℕ) → p + k ≡ t → climb f k p ≡ before t (first f k (suc p))
unfolding before first climb
before_first t f zero p e = omega arith
before_first t f (suc k) p e = go (f (suc p)) refl (before_first t f k (suc p) (omega arith))
  where
    go : (s : Bool) → f (suc p) ≡ s → climb f k (suc p) ≡ before t (first f k (suc (suc p))) → climb f (suc k) p ≡ before t (first f (suc k) (suc p))
    go true d later = rw (d, climb, first) (omega arith)
    go false d later = rw (d, climb, first) later

module _ (w : ℕ) (rs : List Rule) (p : ℕ) (word : p ≤ top w) where
  gap_is : Climbed (meets7 w rs) p (top w) (gap w rs p)
  unfolding gap
  gap_is =
      subst (Climbed (meets7 w rs) p (top w)) (before_first (top w) (meets7 w rs) (top w - p) p (omega arith))
      (climb_is (meets7 w rs) (top w - p) p (top w) (omega arith))

  rule_link : (q i : ℕ) → Best w rs p (length rs) q i → RuleLink w rs p q i
  rule_link q i b =
      record {
        fails = b.fails;
        furthest = λ j q' f. b.most j q' f.plain.there f;
        lowest = λ j f. b.least j f.plain.there f;
      }

  run_start : (q i : ℕ) → Fails w rs i p q → Starts w rs p (start w (nth rs i) p) i
  unfolding start
  run_start q i f =
      record {
        fails = record { plain = f.plain; order = down.order; word = word; each = λ x a b. go x a b (dec_lt x p) };
        lowest = λ s g. down.lowest s (λ y a b. g.each y a (omega arith));
      }
    where
      down : Sunk (meets w (nth rs i)) p (start w (nth rs i) p)
      down = sink_is (meets w (nth rs i)) p

      go : (x : ℕ) → start w (nth rs i) p ≤ x → x ≤ p → Dec (x < p) → meets w (nth rs i) x ≡ false
      go x a b (yes d) = down.misses x a d
      go x a b (no d) = f.each x (omega arith) (omega (arith, f.order))

  module _ (no_fit : fits w rs p ≡ false) where
    bits_link : Held w rs p (length rs) Nowhere → BitsLink w rs p (gap w rs p)
    bits_link none =
        record {
          no_rule = λ j f. none j p f.plain.there f;
          lacks = record { order = gap_is.order; word = gap_is.bound; each = all_miss (meets7 w rs) gap_is here };
          next = gap_is.stop;
        }
      where
        fails_here : (i : ℕ) → Plain rs i → meets w (nth rs i) p ≡ false → Fails w rs i p p
        fails_here i d e = record { plain = d; order = le_refl p; word = word; each = λ x a b. let s : x ≡ p = omega arith in ap (meets w (nth rs i)) s ∙ e }

        here : meets7 w rs p ≡ false
        here = sym (bits_only w p rs (λ i d e. none i p d.there (fails_here i d e))) ∙ no_fit

    pub taken : Taken w rs p (link_at w rs p)
    unfolding link_at link_by
    taken = go (furthest w rs p) (furthest_held w rs p word)
      where
        go : (far : Far) → Held w rs p (length rs) far → Taken w rs p (link_by (λ (i : ℕ). start w (nth rs i) p) p (gap w rs p) far)
        go (To q i) b = inl (rule_link q i b, run_start q i b.fails)
        go Nowhere b = inr (refl, refl, bits_link b)
