-- What the search over pairs of words finds is the smallest and the largest result: where a result is given, some words of the
-- intervals give it, and the other way round. Assumes nothing.
use mathlib.Core.Path.{◌≡◌, refl, sym, ap, ◌∙◌}
use mathlib.Core.Bool.{Bool, true, false, false≢true}
use Prim.Native.Nat.{ℕ, suc, ◌-◌, ◌^◌, ◌≤◌, ◌<◌, zero-le}
use native.Mathlib.Decide.{dec_le}
use native.Mathlib.Omega.{arith}
use borrow.Author.Tests.{eq-eqb, eqb-true}
use lib.Dec.{eqb}
use Rattle.std.specs.Prelude.{Option}
use Rattle.std.specs.Prelude.{Some, None}
use Rattle.word.specs.Search.{first, last}
use Rattle.word.specs.Word.{top}
use Rattle.word.proofs.Search.{first_at, last_at}
use Rattle.word.proofs.Searched.{first_is, first_nothing, last_is, last_nothing}
use Rattle.word.proofs.Widths.{top-suc}
use Rattle.span.specs.declared.interval.Interval.{Interval}
use Rattle.span.specs.interval.Interval.{Greatest, In, Least}
use Rattle.span.specs.extent.Span.{gives, is_found, largest, smallest, some, word_of}

not_true-false : (b : Bool) → (b ≡ true → ⊥) → b ≡ false
not_true-false true n = absurd (n refl)
not_true-false false n = refl

module _ (f : ℕ → Bool) (i : Interval) where
  some_at : (a : ℕ) → In i a → f a ≡ true → some f i ≡ true
  unfolding some is_found
  some_at a m t = go (first f (suc i.high - i.low) i.low) refl
    where
      go : (r : Option ℕ) → first f (suc i.high - i.low) i.low ≡ r → is_found (first f (suc i.high - i.low) i.low) ≡ true
      go (Some b) e = ap is_found e
      go None e = absurd (false≢true (sym (first_nothing f _ _ e a m.low (omega (arith, m.low, m.high))) ∙ t))

  some_has : some f i ≡ true → (a : ℕ) × (In i a × (f a ≡ true))
  unfolding some is_found
  some_has t = go (first f (suc i.high - i.low) i.low) refl
    where
      go : (r : Option ℕ) → first f (suc i.high - i.low) i.low ≡ r → (a : ℕ) × (In i a × (f a ≡ true))
      go (Some a) e =
          let s = first_is f _ _ a e in (a, (record { low = s.low; high = omega (arith, s.low, s.high) }, s.passes))
      go None e = absurd (false≢true (sym (ap is_found e) ∙ t))

module _ (f : ℕ → ℕ → ℕ) (x y : Interval) where
  gives_at : (a b : ℕ) → In x a → In y b → gives f x y (f a b) ≡ true
  unfolding gives
  gives_at a b m n = some_at _ x a m (some_at (λ d. eqb (f a d) (f a b)) y b n (eq-eqb (f a b) (f a b) refl))

  gives_has : (v : ℕ) → gives f x y v ≡ true → (a : ℕ) × ((b : ℕ) × (In x a × (In y b × (f a b ≡ v))))
  unfolding gives
  gives_has v t =
      let (a, (m, s)) = some_has (λ c. some (λ d. eqb (f c d) v) y) x t in
      let (b, (n, e)) = some_has (λ d. eqb (f a d) v) y s in
      (a, (b, (m, (n, eqb-true (f a b) v e))))

  pub smallest_is : (w v : ℕ) → Least f x y v → v < 2 ^ w → smallest w f x y ≡ v
  unfolding smallest word_of
  smallest_is w v m h =
      ap word_of
      (first_at (gives f x y) (2 ^ w) 0 v zero-le (omega arith) (ap (gives f x y) (sym m.is) ∙ gives_at m.a m.b m.in_x m.in_y)
      (λ u l k. not_true-false (gives f x y u) (λ t. let (a, (b, (p, (q, e)))) = gives_has u t in omega (arith, m.least a b p q, e))))

  pub largest_is : (w v : ℕ) → Greatest f x y v → v < 2 ^ w → largest w f x y ≡ v
  unfolding largest word_of
  largest_is w v m h =
      ap word_of
      (last_at (gives f x y) (2 ^ w) v h (ap (gives f x y) (sym m.is) ∙ gives_at m.a m.b m.in_x m.in_y)
      (λ u l k. not_true-false (gives f x y u) (λ t. let (a, (b, (p, (q, e)))) = gives_has u t in omega (arith, m.greatest a b p q, e))))

  pub smallest_word : (w : ℕ) → smallest w f x y ≤ top w
  unfolding smallest word_of
  smallest_word w = go (first (gives f x y) (2 ^ w) 0) refl
    where
      go : (r : Option ℕ) → first (gives f x y) (2 ^ w) 0 ≡ r → word_of (first (gives f x y) (2 ^ w) 0) ≤ top w
      go (Some v) e = rw e (omega (arith, (first_is _ _ _ v e).high, top-suc w))
      go None e = rw e zero-le

  -- intervals with words in them, whose results are words
  module _ (w : ℕ) (mx : x.low ≤ x.high) (my : y.low ≤ y.high) (words : (a b : ℕ) → In x a → In y b → f a b < 2 ^ w) where
    here_x : In x x.low
    here_x = record { low = omega arith; high = mx }

    here_y : In y y.low
    here_y = record { low = omega arith; high = my }

    pub has_smallest : Least f x y (smallest w f x y)
    unfolding smallest word_of
    has_smallest = go (first (gives f x y) (2 ^ w) 0) refl
      where
        go : (r : Option ℕ) → first (gives f x y) (2 ^ w) 0 ≡ r → Least f x y (word_of (first (gives f x y) (2 ^ w) 0))
        go (Some v) e = rw e (found (gives_has v (first_is _ _ _ v e).passes))
          where
            found : (a : ℕ) × ((b : ℕ) × (In x a × (In y b × (f a b ≡ v)))) → Least f x y v
            found (a, (b, (p, (q, i)))) = record { a = a; b = b; in_x = p; in_y = q; is = i; least = least }
              where
                least : (c d : ℕ) → In x c → In y d → v ≤ f c d
                least c d m n = test (dec_le v (f c d))
                  where
                    test : Dec (v ≤ f c d) → v ≤ f c d
                    test (yes h) = h
                    test (no h) =
                        absurd (false≢true (sym ((first_is _ _ _ v e).none_before (f c d) zero-le (omega arith)) ∙ gives_at c d m n))
        go None e =
            absurd
            (false≢true
            (sym (first_nothing (gives f x y) _ _ e (f x.low y.low) zero-le (omega (arith, words _ _ here_x here_y))) ∙ gives_at _ _ here_x here_y))

    pub has_largest : Greatest f x y (largest w f x y)
    unfolding largest word_of
    has_largest = go (last (gives f x y) (2 ^ w)) refl
      where
        go : (r : Option ℕ) → last (gives f x y) (2 ^ w) ≡ r → Greatest f x y (word_of (last (gives f x y) (2 ^ w)))
        go (Some v) e = rw e (found (gives_has v (last_is _ _ v e).passes))
          where
            found : (a : ℕ) × ((b : ℕ) × (In x a × (In y b × (f a b ≡ v)))) → Greatest f x y v
            found (a, (b, (p, (q, i)))) = record { a = a; b = b; in_x = p; in_y = q; is = i; greatest = greatest }
              where
                greatest : (c d : ℕ) → In x c → In y d → f c d ≤ v
                greatest c d m n = test (dec_le (f c d) v)
                  where
                    test : Dec (f c d ≤ v) → f c d ≤ v
                    test (yes h) = h
                    test (no h) =
                        absurd (false≢true (sym ((last_is _ _ v e).none_after (f c d) (omega arith) (words c d m n)) ∙ gives_at c d m n))
        go None e =
            absurd
            (false≢true (sym (last_nothing (gives f x y) _ e (f x.low y.low) (words _ _ here_x here_y)) ∙ gives_at _ _ here_x here_y))
