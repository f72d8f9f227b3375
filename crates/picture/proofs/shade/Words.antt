-- A stretch of words: where the first that passes comes after it every word fails, and where the section that begins it is held as far
-- every word passes just where every word has the bits. Assumes nothing.
use mathlib.Core.Path.{◌≡◌, refl, sym, ap, ap₂, ◌∙◌}
use mathlib.Core.Bool.{Bool, true, false, false≢true, cond}
use mathlib.Core.List.{List}
use mathlib.Core.Logic.{◌⊎◌, inl, inr}
use Prim.Native.Nat.{ℕ, suc, ◌-◌, ◌≤◌, ◌<◌}
use native.Mathlib.Nat.{le_refl}
use native.Mathlib.Omega.{arith}
use borrow.Author.Tests.{le-ltb, lt-ltb, not-true}
use Rattle.std.specs.Prelude.{Some, None}
use Rattle.word.specs.Search.{climb, first}
use Rattle.word.proofs.Climb.{climb_is}
use Rattle.word.proofs.Tests.{both_pass, same_test}
use Rattle.rule.specs.declared.band.Band.{Band}
use Rattle.rule.specs.band.route.Band.{all_hold}
use Rattle.rule.specs.declared.bits.Fixed.{Fixed}
use Rattle.rule.specs.bits.route.Fixed.{has_bits}
use Rattle.search.specs.rows.route.Bands.{passes}
use Rattle.search.specs.declared.section.Section.{Section}
use Rattle.search.specs.section.route.Section.{section_at}
use Rattle.search.specs.section.route.Sides.{some_fails}
use Rattle.search.proofs.section.Alike.{held-passes, held_section, section_alike}
use Rattle.checker.specs.covering.Check.{every_word}
use Rattle.checker.proofs.covering.EveryWord.{every_each, every_same, misses, next_after, none_after}
use Rattle.picture.specs.declared.shade.Cell.TheVariants.{Fails, Meets, Partly}
use Rattle.picture.specs.shade.Cell.{cell_of}

-- ---- the cell, by its two tests

module _ (f : ℕ → Bool) (p q : ℕ) where
  cell_as : {a b : Bool} → misses f p q ≡ a → every_word f p q ≡ b → cond a Fails (cond b Meets Partly) ≡ cell_of f p q
  unfolding cell_of
  cell_as d e = sym (ap₂ (λ (a b : Bool). cond a Fails (cond b Meets Partly)) d e)

  module _ (t : ℕ) (word : q ≤ t) where
    pub no_word : first f (suc t - p) p ≡ None → Fails ≡ cell_of f p q
    no_word e = cell_as (sym (none_after f p q t word e)) refl

    module _ (x : ℕ) (found : first f (suc t - p) p ≡ Some x) where
      pub later_word : q < x → Fails ≡ cell_of f p q
      later_word h = cell_as (sym (next_after f p q (suc t - p) x found) ∙ lt-ltb q x h) refl

      pub each_word : x ≤ q → every_word f p q ≡ true → Meets ≡ cell_of f p q
      each_word h e = cell_as (sym (next_after f p q (suc t - p) x found) ∙ le-ltb q x h) e

      pub some_word : x ≤ q → every_word f p q ≡ false → Partly ≡ cell_of f p q
      some_word h e = cell_as (sym (next_after f p q (suc t - p) x found) ∙ le-ltb q x h) e

-- ---- whether every word passes

module _ (t : ℕ) (bs : List Band) (f : Fixed) (p q : ℕ) (order : p ≤ q) (word : q ≤ t) where
  abbrev s : Section
  s = section_at t bs p

  not_all : (x : ℕ) → p ≤ x → x ≤ q → all_hold bs x ≡ false → false ≡ every_word (passes bs f) p q
  unfolding passes
  not_all x a b n =
      same_test false (every_word (passes bs f) p q) (λ e. absurd (false≢true e))
      (λ e. absurd (false≢true (sym n ∙ (both_pass (all_hold bs x) (has_bits f x) (every_each (passes bs f) p q e x a b)).0)))

  pub first_fails : s.held ≡ false → false ≡ every_word (passes bs f) p q
  first_fails e = not_all p (le_refl p) order ((section_alike t bs p (omega arith)).alike p (le_refl p) (section_alike t bs p (omega arith)).order ∙ e)

  pub later_fails : s.held ≡ true → s.to < q → false ≡ every_word (passes bs f) p q
  unfolding some_fails
  later_fails e h = go (climb_is (some_fails bs) (t - p) p t (omega arith)).stop
    where
      alike : all_hold bs p ≡ true
      alike = (section_alike t bs p (omega arith)).alike p (le_refl p) (section_alike t bs p (omega arith)).order ∙ e

      to_is : s.to ≡ climb (some_fails bs) (t - p) p
      to_is = ap (λ (z : Section). z.to) (held_section t bs p (omega arith) alike)

      go : (climb (some_fails bs) (t - p) p ≡ t) ⊎ (some_fails bs (suc (climb (some_fails bs) (t - p) p)) ≡ true) → false ≡ every_word (passes bs f) p q
      go (inl d) = absurd (omega (arith, to_is))
      go (inr d) =
          not_all (suc (climb (some_fails bs) (t - p) p)) (omega (arith, to_is, (section_alike t bs p (omega arith)).order)) (omega (arith, to_is)) (not-true _ d)

  pub all_held : s.held ≡ true → q ≤ s.to → every_word (has_bits f) p q ≡ every_word (passes bs f) p q
  all_held e h = every_same (has_bits f) (passes bs f) p q (λ x a b. sym (held-passes (section_alike t bs p (omega arith)) f x a (omega arith) e))
