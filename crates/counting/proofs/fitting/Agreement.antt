-- The verdict and its words agree with how many words fit, and which: the first word that fits stands first, the last one last, and
-- there is one between them or none. Assumes nothing.
use mathlib.Core.Path.{◌≡◌, refl, sym, ap, ◌∙◌, subst, subst₂}
use mathlib.Core.Bool.{Bool, false≢true}
use mathlib.Core.List.{List, [], ◌∷◌, ◌++◌}
use Prim.Native.Nat.{ℕ, suc, ◌+◌, ◌-◌, ◌^◌, ◌≤◌, ◌<◌}
use native.Mathlib.Decide.{dec_lt, ℕ_discrete}
use native.Mathlib.Omega.{arith}
use borrow.Author.Tests.{eq-eqb, ne_eqb}
use lib.ListN.{get_or, length, length-append}
use lib.Seq.{get_or-append-add}
use Rattle.std.specs.Prelude.{Option}
use Rattle.std.specs.Prelude.{Some, None}
use Rattle.word.specs.Search.{first, last, passing}
use Rattle.word.proofs.Count.{count_past}
use Rattle.word.proofs.Searched.{First, Last, first_is, first_nothing, last_is, last_nothing}
use Rattle.rule.specs.declared.Rule.{Rule}
use Rattle.rule.specs.Meaning.{fits}
use Rattle.search.specs.declared.verdict.Kept.{Kept}
use Rattle.search.specs.verdict.Kept.{keeps, kept, verdict_of}
use Rattle.counting.specs.fitting.Agreement.{Agrees}
use Rattle.counting.specs.fitting.Words.{fitting_from, how_many}
use Rattle.counting.proofs.fitting.Passing.{first_passing, last_passing, none_passing, passing-length}

agrees_none : Agrees (keeps 0 0 0) 0 []
agrees_none =
    record {
      none = (λ e. refl, λ e. refl);
      one = (λ e. absurd (omega arith), λ e. absurd (omega arith));
      many = (λ e. absurd (omega arith), λ e. absurd (omega arith));
      smallest = λ h. absurd (omega arith);
      largest = λ h. absurd (omega arith);
    }

module _ (f : ℕ → Bool) (k : ℕ) where
  abbrev Agreed : Kept → Type 0
  Agreed v = Agrees v (length (passing f k 0)) (passing f k 0)

  nothing : passing f k 0 ≡ [] → Agreed (keeps 0 0 0)
  nothing e = subst (λ (xs : List ℕ). Agrees (keeps 0 0 0) (length xs) xs) (sym e) agrees_none

  module _ (a b : ℕ) (low : First f k 0 a) (high : Last f k b) where
    -- the words before the last one
    abbrev before : List ℕ
    before = passing f b 0

    all : passing f k 0 ≡ before ++ b ∷ []
    all = last_passing f high

    size : length (passing f k 0) ≡ suc (length before)
    size = ap length all ∙ length-append before (b ∷ []) ∙ (let q : length before + 1 ≡ suc (length before) = omega arith in q)

    least : get_or (passing f k 0) 0 0 ≡ a
    least = let q : suc a + (k - suc a) ≡ 0 + k = omega (arith, low.high) in ap (λ (xs : List ℕ). get_or xs 0 0) (first_passing f low (k - suc a) q)

    most : get_or (passing f k 0) (length (passing f k 0) - 1) 0 ≡ b
    most =
        let q : length (passing f k 0) - 1 ≡ length before + 0 = omega (arith, size) in
        ap (λ (i : ℕ). get_or (passing f k 0) i 0) q
        ∙ ap (λ (xs : List ℕ). get_or xs (length before + 0) 0) all
        ∙ get_or-append-add before (b ∷ []) 0 0

    one : a ≡ b → length before ≡ 0
    one q = ap length (none_passing f b 0 (λ y l h. low.none_before y l (omega arith)))

    ordered : a ≤ b
    ordered = go (dec_lt b a)
      where
        go : Dec (b < a) → a ≤ b
        go (yes h) = absurd (false≢true (sym (low.none_before b (omega arith) h) ∙ high.passes))
        go (no h) = omega arith

    more : (a ≡ b → ⊥) → 1 ≤ length before
    more q =
        let h : a < b = omega (arith, ordered) in
        omega (arith, passing-length f b 0, count_past f b (b - suc a) 0 a (omega arith) (omega arith) low.passes)

    agreed : Agreed (verdict_of (Some a) (Some b))
    unfolding verdict_of
    agreed = go (ℕ_discrete a b)
      where
        go : Dec (a ≡ b) → Agreed (verdict_of (Some a) (Some b))
        go (yes q) =
            rw (eq-eqb a b q)
            (record {
              none = (λ e. absurd (omega arith), λ e. absurd (omega (arith, size)));
              one = (λ e. omega (arith, size, one q), λ e. refl);
              many = (λ e. absurd (omega arith), λ e. absurd (omega (arith, size, one q)));
              smallest = λ h. least;
              largest = λ h. most;
            })
        go (no q) =
            rw (ne_eqb a b q)
            (record {
              none = (λ e. absurd (omega arith), λ e. absurd (omega (arith, size)));
              one = (λ e. absurd (omega arith), λ e. absurd (omega (arith, size, more q)));
              many = (λ e. omega (arith, size, more q), λ e. refl);
              smallest = λ h. least;
              largest = λ h. most;
            })

  found : Agreed (verdict_of (first f k 0) (last f k))
  unfolding verdict_of
  found = go (first f k 0) (last f k) refl refl
    where
      go : (a b : Option ℕ) → first f k 0 ≡ a → last f k ≡ b → Agreed (verdict_of a b)
      go None b e d = nothing (none_passing f k 0 (λ y l h. first_nothing f k 0 e y l h))
      go (Some a) None e d = nothing (none_passing f k 0 (λ y l h. last_nothing f k d y (omega arith)))
      go (Some a) (Some b) e d = agreed a b (first_is f k 0 a e) (last_is f k b d)

pub kept_agrees : (w : ℕ) (rs : List Rule) → Agrees (kept w rs) (how_many w rs) (fitting_from w rs 0)
unfolding kept how_many fitting_from
kept_agrees w rs =
    let q : 2 ^ w ≡ 2 ^ w - 0 = omega arith in
    subst₂ (λ (n m : ℕ). Agrees (kept w rs) n (passing (fits w rs) m 0)) (passing-length (fits w rs) (2 ^ w) 0) q (found (fits w rs) (2 ^ w))
