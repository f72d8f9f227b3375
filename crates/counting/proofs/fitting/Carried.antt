-- A listing and the one that carries it on, from one above the last word written: what the first left out, the second starts with. And
-- where a listing comes to its end. Assumes nothing.
use mathlib.Core.Path.{◌≡◌, refl, sym, ap, ◌∙◌}
use mathlib.Core.Bool.{Bool, true, false}
use mathlib.Core.List.{List, [], ◌∷◌, ◌++◌}
use Prim.Native.Nat.{ℕ, zero, suc, ◌-◌, ◌^◌, ◌<◌}
use native.Mathlib.Omega.{arith}
use lib.ListN.{length, take}
use Rattle.word.specs.Search.{passing}
use Rattle.word.specs.Word.{top}
use Rattle.word.proofs.Widths.{top-suc}
use Rattle.rule.specs.declared.Rule.{Rule}
use Rattle.rule.specs.Meaning.{fits}
use Rattle.counting.specs.fitting.Words.{fitting_from, how_many, onward, words_from}
use Rattle.counting.proofs.fitting.Passing.{passing-length}

-- a list of which fewer than asked could be taken was taken whole
short : {A : Type 0} (m : ℕ) (xs : List A) → length (take m xs) < m → xs ≡ take m xs
short zero xs h = absurd (omega arith)
short (suc m) [] h = refl
short (suc m) (x ∷ xs) h = ap (λ (l : List _). x ∷ l) (short m xs (omega arith))

module _ (w : ℕ) (rs : List Rule) where
  abbrev f : ℕ → Bool
  f = fits w rs

  -- one above the last word does not ask where a list with words began
  split : (k p m : ℕ) → k ≡ 2 ^ w - p
      → passing f k p ≡ take m (passing f k p) ++ passing f (2 ^ w - onward p (take m (passing f k p))) (onward p (take m (passing f k p)))
  unfolding passing onward
  split k p zero e = ap (λ (n : ℕ). passing f n p) e
  split zero p (suc m) e = ap (λ (n : ℕ). passing f n p) e
  split (suc k) p (suc m) e = go (f p) refl (split k (suc p) m (omega arith)) (split k (suc p) (suc m) (omega arith))
    where
      Splits : List ℕ → ℕ → ℕ → Type 0
      Splits xs q n = xs ≡ take n xs ++ passing f (2 ^ w - onward q (take n xs)) (onward q (take n xs))

      here : f p ≡ false → passing f k (suc p) ≡ passing f (2 ^ w - p) p
      here t = let q : suc k ≡ 2 ^ w - p = omega arith in sym (rw (t, passing)) ∙ ap (λ (n : ℕ). passing f n p) q

      past : (xs : List ℕ) → xs ≡ passing f (2 ^ w - p) p → Splits xs (suc p) (suc m) → Splits xs p (suc m)
      past [] d later = d
      past (x ∷ xs) d later = later

      go : (b : Bool) → f p ≡ b → Splits (passing f k (suc p)) (suc p) m → Splits (passing f k (suc p)) (suc p) (suc m)
          → Splits (passing f (suc k) p) p (suc m)
      go true t later _ = rw (t, passing) (ap (λ (l : List ℕ). p ∷ l) later)
      go false t _ later = rw (t, passing) (past (passing f k (suc p)) (here t) later)

  pub carried_on : (p m : ℕ) → fitting_from w rs p ≡ words_from w rs p m ++ fitting_from w rs (onward p (words_from w rs p m))
  unfolding fitting_from words_from
  carried_on p m = split (2 ^ w - p) p m refl

  -- a buffer that was not filled got all that there are
  pub not_filled : (p m : ℕ) → length (words_from w rs p m) < m → fitting_from w rs p ≡ words_from w rs p m
  unfolding words_from
  not_filled p m h = short m (fitting_from w rs p) h

  -- and nothing comes after the top word
  pub past_top : fitting_from w rs (suc (top w)) ≡ []
  unfolding fitting_from passing
  past_top = let q : 2 ^ w - suc (top w) ≡ 0 = omega (arith, top-suc w) in ap (λ (n : ℕ). passing f n (suc (top w))) q

  -- all fitting words, counted
  pub counted : length (fitting_from w rs 0) ≡ how_many w rs
  unfolding fitting_from how_many
  counted = let q : 2 ^ w - 0 ≡ 2 ^ w = omega arith in ap (λ (n : ℕ). length (passing f n 0)) q ∙ passing-length f (2 ^ w) 0
