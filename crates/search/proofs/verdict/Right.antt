-- Demand 2 of what is kept: the first and the last word that fit are the ends of all that do, so that whether there are
-- any, and whether the ends are one word, fixes the verdict and the words, and nothing else is right. Assumes nothing.
use mathlib.Core.Path.{◌≡◌, refl, sym, ◌∙◌}
use mathlib.Core.Bool.{false, false≢true}
use mathlib.Core.List.{List}
use Prim.Native.Nat.{ℕ, ◌^◌, ◌≤◌, ◌<◌}
use native.Mathlib.Decide.{ℕ_discrete}
use native.Mathlib.Omega.{arith}
use borrow.Author.Tests.{eq-eqb, ne_eqb}
use Rattle.std.specs.Prelude.{Option}
use Rattle.std.specs.Prelude.{Some, None}
use Rattle.word.specs.Search.{first, last}
use Rattle.word.proofs.Searched.{first_is, first_nothing, last_is, last_nothing}
use Rattle.word.proofs.Widths.{top-suc}
use Rattle.rule.specs.declared.Rule.{Rule}
use Rattle.rule.specs.Meaning.{fits}
use Rattle.search.specs.declared.verdict.Kept.{Kept}
use Rattle.search.specs.verdict.Kept.{keeps, kept, verdict_of}
use Rattle.search.specs.verdict.Demand.{Fits, Right}

alike : (k : Kept) {v a b : ℕ} → k.verdict ≡ v → (k.smallest ≡ a) × (k.largest ≡ b) → k ≡ keeps v a b
alike k e d = λ i. record { verdict = e i; smallest = d.0 i; largest = d.1 i }

module _ (w : ℕ) (rs : List Rule) where
  -- a is the smallest and b the largest word that fits
  record Ends (a b : ℕ) : Type 0 where
    low : Fits w rs a
    high : Fits w rs b
    between : (x : ℕ) → Fits w rs x → (a ≤ x) × (x ≤ b)

  -- what may be kept, and what is then known of the words that fit
  data Shape : Kept → Type 0 where
    no_word : ((x : ℕ) → Fits w rs x → ⊥) → Shape (keeps 0 0 0)
    one_word : {a b : ℕ} → a ≡ b → Ends a b → Shape (keeps 1 a b)
    more_words : {a b : ℕ} → a < b → Ends a b → Shape (keeps 2 a b)

  -- a word that fails does not fit
  misses : (x : ℕ) → (x < 2 ^ w → fits w rs x ≡ false) → Fits w rs x → ⊥
  misses x f h = false≢true (sym (f (omega (arith, top-suc w))) ∙ h.meets)

  -- what the two searches find
  found : (a b : ℕ) → first (fits w rs) (2 ^ w) 0 ≡ Some a → last (fits w rs) (2 ^ w) ≡ Some b → Ends a b
  found a b e d =
      let f = first_is (fits w rs) (2 ^ w) 0 a e in
      let l = last_is (fits w rs) (2 ^ w) b d in
      record {
        low = record { word = omega (arith, top-suc w); meets = f.passes };
        high = record { word = omega (arith, top-suc w); meets = l.passes };
        between = λ x h.
            let before : x < a → ⊥ = λ q. misses x (λ i. f.none_before x (omega arith) q) h in
            let after : b < x → ⊥ = λ q. misses x (l.none_after x q) h in
            omega arith;
      }

  shape : Shape (kept w rs)
  unfolding kept verdict_of
  shape = go (first (fits w rs) (2 ^ w) 0) (last (fits w rs) (2 ^ w)) refl refl
    where
      some : (a b : ℕ) → Ends a b → Dec (a ≡ b) → Shape (verdict_of (Some a) (Some b))
      some a b s (yes q) = rw (eq-eqb a b q) (one_word q s)
      some a b s (no q) = let h : a < b = omega (arith, s.between a s.low) in rw (ne_eqb a b q) (more_words h s)

      go : (a b : Option ℕ) → first (fits w rs) (2 ^ w) 0 ≡ a → last (fits w rs) (2 ^ w) ≡ b → Shape (verdict_of a b)
      go None b e d = no_word (λ x. misses x (λ i. first_nothing (fits w rs) (2 ^ w) 0 e x (omega arith) (omega arith)))
      go (Some a) None e d = no_word (λ x. misses x (last_nothing (fits w rs) (2 ^ w) d x))
      go (Some a) (Some b) e d = some a b (found a b e d) (ℕ_discrete a b)

  right : {k : Kept} → Shape k → Right w rs k
  right (no_word n) =
      record {
        none = (λ e. n, λ h. refl);
        one = (λ e. absurd (omega arith), λ h. absurd (n h.0 h.1));
        many = (λ e. absurd (omega arith), λ h. absurd (n h.0 h.3));
        no_words = λ e. (refl, refl);
        ends = λ x h. absurd (n x h);
      }
  right (one_word {a} q s) =
      record {
        none = (λ e. absurd (omega arith), λ h. absurd (h a s.low));
        one = (λ e. (a, s.low, λ y h. omega (arith, s.between y h)), λ h. refl);
        many = (λ e. absurd (omega arith), λ h. absurd (omega (arith, s.between h.0 h.3, s.between h.1 h.4)));
        no_words = λ e. absurd (omega arith);
        ends = λ x h. (s.low, s.high, (s.between x h).0, (s.between x h).1);
      }
  right (more_words {a} {b} q s) =
      record {
        none = (λ e. absurd (omega arith), λ h. absurd (h a s.low));
        one = (λ e. absurd (omega arith), λ h. absurd (omega (arith, h.2 a s.low, h.2 b s.high)));
        many = (λ e. (a, b, q, s.low, s.high), λ h. refl);
        no_words = λ e. absurd (omega arith);
        ends = λ x h. (s.low, s.high, (s.between x h).0, (s.between x h).1);
      }

  -- what is right has the two ends as its words
  words : (a b : ℕ) → Ends a b → (k : Kept) → Right w rs k → (k.smallest ≡ a) × (k.largest ≡ b)
  words a b s k r =
      let l = r.ends a s.low in
      let h = r.ends b s.high in
      omega (arith, s.between k.smallest l.0, s.between k.largest h.1)

  -- so only one thing is right
  same : {k : Kept} → Shape k → (k' : Kept) → Right w rs k' → k' ≡ k
  same (no_word n) k' r = alike k' (r.none.1 n) (r.no_words (r.none.1 n))
  same (one_word {a} {b} q s) k' r =
      alike k' (r.one.1 (a, s.low, λ y h. omega (arith, s.between y h))) (words a b s k' r)
  same (more_words {a} {b} q s) k' r = alike k' (r.many.1 (a, b, q, s.low, s.high)) (words a b s k' r)

pub kept_right : (w : ℕ) (rs : List Rule) → Right w rs (kept w rs)
kept_right w rs = right w rs (shape w rs)

pub right_unique : (w : ℕ) (rs : List Rule) (k : Kept) → Right w rs k → k ≡ kept w rs
right_unique w rs = same w rs (shape w rs)
