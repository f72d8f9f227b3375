-- The words of a section, one after the other: up to a word found they are those before it and itself, and none is left where the next
-- word comes after the section. Assumes nothing.
use mathlib.Core.Path.{◌≡◌, sym, ap, ◌∙◌}
use mathlib.Core.Bool.{Bool, true, false, false≢true}
use mathlib.Core.List.{List, [], ◌∷◌, ◌++◌, append-nil}
use Prim.Native.Nat.{ℕ, suc, ◌+◌, ◌-◌, ◌≤◌, ◌<◌}
use native.Mathlib.Omega.{arith}
use borrow.Author.Tests.{eq-eqb, eqb-true}
use lib.Bits.{bit_and, and_le_r}
use Rattle.word.specs.Search.{passing}
use Rattle.word.proofs.Searched.{First}
use Rattle.rule.specs.declared.bits.Fixed.{Fixed}
use Rattle.rule.specs.declared.bits.Fixed.TheVariants.{Bits, Clash}
use Rattle.rule.specs.bits.route.Fixed.{Tidy, has_bits}
use Rattle.search.specs.declared.section.Section.{Section}
use Rattle.counting.proofs.fitting.Passing.{first_passing, none_passing, passing_same, passing_split}
use Rattle.listing.specs.putting.route.Put.{is_free, run_words, section_words}

module _ (f : ℕ → Bool) where
  -- no word
  pub passing_none : (p : ℕ) → passing f (p - p) p ≡ []
  unfolding passing
  passing_none p = let e : p - p ≡ 0 = omega arith in ap (λ (k : ℕ). passing f k p) e

  -- the words from a to below q, in two parts at p
  pub passing_on : (a p q : ℕ) → a ≤ p → p ≤ q → passing f (q - a) a ≡ passing f (p - a) a ++ passing f (q - p) p
  passing_on a p q l h =
      let e : a + (p - a) ≡ p = omega arith in
      passing_split f (p - a) (q - p) (q - a) a (omega arith) ∙ ap (λ (n : ℕ). passing f (p - a) a ++ passing f (q - p) n) e

  -- up to the next word, and with it
  pub passing_found : (a p x k : ℕ) → a ≤ p → First f k p x → passing f (suc x - a) a ≡ passing f (p - a) a ++ x ∷ []
  unfolding passing
  passing_found a p x k l found =
      let here : First f (suc x - p) p x = record { low = found.low; high = omega (arith, found.low); passes = found.passes; none_before = found.none_before } in
      passing_on a p (suc x) l (omega (arith, found.low))
      ∙ ap (λ (xs : List ℕ). passing f (p - a) a ++ xs) (first_passing f here 0 (omega (arith, found.low)))

  -- and none from p on
  pub passing_over : (a p q : ℕ) → a ≤ p → p ≤ q → ((y : ℕ) → p ≤ y → y < q → f y ≡ false) → passing f (q - a) a ≡ passing f (p - a) a
  passing_over a p q l h n =
      passing_on a p q l h
      ∙ ap (λ (xs : List ℕ). passing f (p - a) a ++ xs) (none_passing f (q - p) p (λ y i j. n y i (omega arith)))
      ∙ append-nil (passing f (p - a) a)

-- the words of a section that is held, and of one that fails
module _ (s : Section) (f : Fixed) (p : ℕ) where
  pub held_words : s.held ≡ true → section_words s f p ≡ passing (has_bits f) (suc s.to - p) p
  unfolding section_words
  held_words e = rw (e, section_words)

  pub no_words : s.held ≡ false → section_words s f p ≡ []
  unfolding section_words
  no_words e = rw (e, section_words)

-- every word has the bits where none is fixed, and so a section that is held is its run of words
free_has : (f : Fixed) → is_free f ≡ true → Tidy f → (x : ℕ) → has_bits f x ≡ true
unfolding is_free Tidy has_bits
free_has (Bits m v) e t x = let z = eqb-true m 0 e in eq-eqb (bit_and x m) v (omega (arith, z, t, and_le_r x m, and_le_r v m))
free_has Clash e t x = absurd (false≢true e)

pub free_words : (s : Section) (f : Fixed) (p : ℕ) → s.held ≡ true → is_free f ≡ true → Tidy f
    → run_words (record { from = p; to = s.to }) ≡ section_words s f p
unfolding run_words
free_words s f p h e t =
    passing_same (λ (x : ℕ). true) (has_bits f) (suc s.to - p) p (λ y l b. sym (free_has f e t y)) ∙ sym (held_words s f p h)
