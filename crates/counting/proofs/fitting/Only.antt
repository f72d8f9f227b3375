-- The listing is a list of which each word is the next that fits, and it is the only one. By induction on the words left, and on the
-- list. Assumes nothing.
use mathlib.Core.Path.{◌≡◌, refl, sym, ap, ◌∙◌, subst}
use mathlib.Core.Bool.{Bool, true, false, false≢true}
use mathlib.Core.List.{List, ◌∷◌}
use Prim.Native.Nat.{ℕ, zero, suc, ◌-◌, ◌^◌, ◌≤◌}
use native.Mathlib.Decide.{ℕ_discrete}
use native.Mathlib.Omega.{arith}
use lib.ListN.{take}
use Rattle.word.specs.Search.{passing}
use Rattle.word.proofs.Widths.{top-suc}
use Rattle.rule.specs.declared.Rule.{Rule}
use Rattle.rule.specs.Meaning.{fits}
use Rattle.search.specs.verdict.Demand.{Fits}
use Rattle.counting.specs.fitting.Next.{EachNext, next, no_more, no_room}
use Rattle.counting.specs.fitting.Words.{fitting_from, words_from}

module _ (w : ℕ) (rs : List Rule) where
  -- where p does not fit, from one above it is as well as from p
  lower : {p room : ℕ} {xs : List ℕ} → fits w rs p ≡ false → EachNext w rs (suc p) room xs → EachNext w rs p room xs
  lower {p} e = go
    where
      above : (y : ℕ) → p ≤ y → Fits w rs y → suc p ≤ y
      above y l h = up (ℕ_discrete y p)
        where
          up : Dec (y ≡ p) → suc p ≤ y
          up (yes q) = absurd (false≢true (sym e ∙ subst (λ (x : ℕ). fits w rs x ≡ true) q h.meets))
          up (no q) = omega arith

      go : {room : ℕ} {xs : List ℕ} → EachNext w rs (suc p) room xs → EachNext w rs p room xs
      go no_room = no_room
      go (no_more n) = no_more (λ y l h. n y (above y l h) h)
      go (next {x = x} n rest) =
          next {p = p} {x = x} (record { upward = omega (arith, n.upward); fits = n.fits; none_left_out = λ y l h. n.none_left_out y (above y l h) h }) rest

  listed : (k p room : ℕ) → k ≡ 2 ^ w - p → EachNext w rs p room (take room (passing (fits w rs) k p))
  unfolding passing
  listed k p zero e = no_room
  listed zero p (suc room) e = no_more none
    where
      none : (y : ℕ) → p ≤ y → Fits w rs y → ⊥
      none y l h = omega (arith, h.word, top-suc w)
  listed (suc k) p (suc room) e = go (fits w rs p) refl (listed k (suc p) room (omega arith)) (listed k (suc p) (suc room) (omega arith))
    where
      go : (b : Bool) → fits w rs p ≡ b → EachNext w rs (suc p) room (take room (passing (fits w rs) k (suc p)))
          → EachNext w rs (suc p) (suc room) (take (suc room) (passing (fits w rs) k (suc p)))
          → EachNext w rs p (suc room) (take (suc room) (passing (fits w rs) (suc k) p))
      go true t rest _ =
          rw (t, passing) (next {p = p} {x = p} (record { upward = omega arith; fits = record { word = omega (arith, top-suc w); meets = t }; none_left_out = λ y l h. l }) rest)
      go false t _ rest = rw (t, passing) (lower t rest)

  -- "in rising order, none left out"
  pub each_next : (p room : ℕ) → EachNext w rs p room (words_from w rs p room)
  unfolding words_from fitting_from
  each_next p room = listed (2 ^ w - p) p room refl

  -- no second list
  pub only_list : {p room : ℕ} {xs ys : List ℕ} → EachNext w rs p room xs → EachNext w rs p room ys → xs ≡ ys
  only_list no_room no_room = refl
  only_list no_room (no_more n) = refl
  only_list (no_more n) no_room = refl
  only_list (no_more n) (no_more m) = refl
  only_list (no_more n) (next m rest) = absurd (n _ m.upward m.fits)
  only_list (next n rest) (no_more m) = absurd (m _ n.upward n.fits)
  only_list (next {room = room} {x = x} {xs = xs} n r) (next {x = y} {xs = ys} m s) =
      let q : y ≡ x = omega (arith, n.none_left_out y m.upward m.fits, m.none_left_out x n.upward n.fits) in
      ap (λ (z : ℕ). z ∷ xs) (sym q) ∙ ap (λ (l : List ℕ). y ∷ l) (only_list r (subst (λ (z : ℕ). EachNext w rs (suc z) room ys) q s))
