-- The number that a call is given is the lowest of those that apply, 11 right after 1, 13 and 14 before 6: the rows stand in that order, and the first that
-- applies gives the number. Assumes nothing.
use mathlib.Core.Path.{◌≡◌, refl, sym, ◌∙◌, subst}
use mathlib.Core.Bool.{Bool, true, false, true≢false}
use mathlib.Core.List.{List, [], ◌∷◌}
use mathlib.Core.Logic.{inl, inr}
use Prim.Native.Nat.{ℕ, ◌≤◌}
use native.Mathlib.Omega.{arith}
use Rattle.rule.specs.accept.Accept.{rule_grounds}
use Rattle.page.specs.Calls.{Call, Ground, add, ask, back, first_that_applies, forward, grounds, mark, open_at, refusal, set_gate}
use Rattle.page.specs.Lowest.{Applies, Lowest, place}
use Rattle.page.specs.Page.{Page}

-- rows in the order of their numbers, from a place on
unfoldable Rising : ℕ → List Ground → Type 0
Rising b [] = Unit {0}
Rising b (g ∷ gs) = (b ≤ place g.number) × Rising (place g.number) gs

above : (b : ℕ) (gs : List Ground) → Rising b gs → (n : ℕ) → Applies n gs → b ≤ place n
unfolding Rising Applies
above b [] r n a = absurd a
above b (g ∷ gs) r n (inl (e, t)) = subst (λ (m : ℕ). b ≤ place m) e r.0
above b (g ∷ gs) r n (inr a) = omega (arith, r.0, above (place g.number) gs r.1 n a)

module _ (g : Ground) (gs : List Ground) where
  first_here : g.applies ≡ true → first_that_applies (g ∷ gs) ≡ g.number
  unfolding first_that_applies
  first_here e = rw e

  first_later : g.applies ≡ false → first_that_applies (g ∷ gs) ≡ first_that_applies gs
  unfolding first_that_applies
  first_later e = rw e

  -- a row that fails is no row that applies
  not_here : (n : ℕ) → g.applies ≡ false → Applies n (g ∷ gs) → Applies n gs
  unfolding Applies
  not_here n f (inl (e, t)) = absurd (true≢false (sym t ∙ f))
  not_here n f (inr a) = a

-- a number in a place after the first is not 0
numbered : (b : ℕ) → 1 ≤ b → (n : ℕ) → b ≤ place n → n ≡ 0 → ⊥
unfolding place
numbered b p n h z = omega (arith, p, subst (λ (m : ℕ). b ≤ place m) z h)

first_none : first_that_applies [] ≡ 0
unfolding first_that_applies
first_none = refl

rising_lowest : (b : ℕ) → 1 ≤ b → (gs : List Ground) → Rising b gs → Lowest gs (first_that_applies gs)
unfolding Rising Applies
rising_lowest b p [] r =
    subst (λ (k : ℕ). Lowest [] k) (sym first_none) (record { applies = λ z. absurd (z refl); none = λ z n a. a; lowest = λ n a. absurd a })
rising_lowest b p (g ∷ gs) r = go (rising_lowest (place g.number) (omega (arith, p, r.0)) gs r.1) g.applies refl
  where
    go : Lowest gs (first_that_applies gs) → (t : Bool) → g.applies ≡ t → Lowest (g ∷ gs) (first_that_applies (g ∷ gs))
    go l true e =
        subst (λ (k : ℕ). Lowest (g ∷ gs) k) (sym (first_here g gs e))
        (record {
          applies = λ z. inl (refl, e);
          none = λ z. absurd (numbered b p g.number r.0 z);
          lowest = λ n a. above (place g.number) (g ∷ gs) (omega arith, r.1) n a;
        })
    go l false e =
        subst (λ (k : ℕ). Lowest (g ∷ gs) k) (sym (first_later g gs e))
        (record {
          applies = λ z. inr (l.applies z);
          none = λ z n a. l.none z n (not_here g gs n e a);
          lowest = λ n a. l.lowest n (not_here g gs n e a);
        })

-- the rows of each call stand in that order
rows_rise : (pg : Page) (c : Call) → Rising 1 (grounds pg c)
unfolding Rising grounds place rule_grounds
rows_rise pg (open_at g) = (omega arith, tt)
rows_rise pg (add e r) = (omega arith, (omega arith, (omega arith, (omega arith, (omega arith, (omega arith, tt))))))
rows_rise pg mark = (omega arith, (omega arith, tt))
rows_rise pg back = (omega arith, (omega arith, tt))
rows_rise pg forward = (omega arith, (omega arith, tt))
rows_rise pg (ask m) = (omega arith, (omega arith, tt))
rows_rise pg (set_gate g) = (omega arith, (omega arith, (omega arith, (omega arith, tt))))

-- "where several apply, the lowest number is given", 11 right after 1, and 13 and 14 before 6
pub lowest_given : (pg : Page) (c : Call) → Lowest (grounds pg c) (refusal pg c)
unfolding refusal
lowest_given pg c = rising_lowest 1 (omega arith) (grounds pg c) (rows_rise pg c)
