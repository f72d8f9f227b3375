-- A word fits when it meets every rule, in whatever order they stand, and a word that fits more rules fits those. So two lists of the same
-- rules have the same words, and a longer one has no more. Assumes nothing.
use mathlib.Core.Path.{◌≡◌, refl, sym, ap, ap₂, ◌∙◌}
use mathlib.Core.Bool.{Bool, true, false, ◌&&◌, false≢true}
use mathlib.Core.List.{List, [], ◌∷◌, ◌++◌, Permᴰ}
use Prim.Native.Nat.{ℕ, zero, suc, ◌≤◌}
use native.Mathlib.Omega.{arith}
use Rattle.word.specs.Search.{count}
use Rattle.word.proofs.Tests.{both_pass}
use Rattle.rule.specs.declared.Rule.{Rule}
use Rattle.rule.specs.Meaning.{fits, meets}

-- two tests change places
places_changed : (p q r : Bool) → p && (q && r) ≡ q && (p && r)
places_changed true q r = refl
places_changed false true r = refl
places_changed false false r = refl

module _ (w : ℕ) where
  fits_same : {rs us : List Rule} → Permᴰ rs us → (x : ℕ) → fits w rs x ≡ fits w us x
  unfolding fits
  fits_same Permᴰ.nil x = refl
  fits_same (Permᴰ.cons e d) x = ap₂ ◌&&◌ (ap (λ (r : Rule). meets w r x) e) (fits_same d x)
  fits_same (Permᴰ.swap {a' = a} {b' = b} {l = l} e d) x =
      ap₂ (λ (r u : Rule). meets w r x && (meets w u x && fits w l x)) e d ∙ places_changed (meets w b x) (meets w a x) (fits w l x)
  fits_same (Permᴰ.trans c d) x = fits_same c x ∙ fits_same d x

  -- as tests of every number
  pub same_words : {rs us : List Rule} → Permᴰ rs us → fits w rs ≡ fits w us
  same_words d = λ i x. fits_same d x i

  pub fits_fewer : (rs us : List Rule) (x : ℕ) → fits w (rs ++ us) x ≡ true → fits w rs x ≡ true
  unfolding fits
  fits_fewer [] us x e = refl
  fits_fewer (r ∷ rs) us x e = let t = both_pass (meets w r x) (fits w (rs ++ us) x) e in ap₂ ◌&&◌ t.0 (fits_fewer rs us x t.1)

-- what passes only where another test does is counted no oftener
module _ (f g : ℕ → Bool) (only : (x : ℕ) → f x ≡ true → g x ≡ true) where
  pub count_fewer : (k p : ℕ) → count f k p ≤ count g k p
  unfolding count
  count_fewer zero p = omega arith
  count_fewer (suc k) p = go (f p) (g p) refl refl (count_fewer k (suc p))
    where
      go : (a b : Bool) → f p ≡ a → g p ≡ b → count f k (suc p) ≤ count g k (suc p) → count f (suc k) p ≤ count g (suc k) p
      go true true e d l = rw (e, d, count) (omega arith)
      go true false e d l = absurd (false≢true (sym d ∙ only p e))
      go false true e d l = rw (e, d, count) (omega arith)
      go false false e d l = rw (e, d, count) l
