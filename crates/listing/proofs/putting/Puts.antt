-- Words put one after another from a place of a buffer on. Assumes nothing.
use mathlib.Core.Path.{◌≡◌, refl, sym, ap, ◌∙◌}
use mathlib.Core.List.{List, [], ◌∷◌, ◌++◌, append_assoc}
use Prim.Native.Nat.{ℕ, zero, suc, ◌+◌, ◌≤◌, ◌<◌}
use native.Mathlib.Omega.{arith}
use lib.ListN.{drop, get_or, length, length-append, length-drop, set, take}
use lib.Seq.{drop-cons, length-take-le, set_at}
use Rattle.listing.specs.putting.route.Put.{put_at}

module _ (b : List ℕ) where
  pub put_none : (place : ℕ) → put_at b place [] ≡ b
  unfolding put_at
  put_none place =
      let e : place + 0 ≡ place = omega arith in
      ap (λ (n : ℕ). take place b ++ drop n b) e ∙ whole place b
    where
      whole : (n : ℕ) (l : List ℕ) → take n l ++ drop n l ≡ l
      whole zero l = refl
      whole (suc n) [] = refl
      whole (suc n) (x ∷ l) = ap (λ (r : List ℕ). x ∷ r) (whole n l)

  -- one word more
  pub put_more : (place x : ℕ) (xs : List ℕ) → place + length xs < length b
      → set (put_at b place xs) (place + length xs) x ≡ put_at b place (xs ++ x ∷ [])
  unfolding put_at
  put_more place x xs h =
      let at : ℕ = place + length xs in
      let front : List ℕ = take place b ++ xs in
      let size : length front ≡ at = length-append (take place b) xs ∙ ap (λ (n : ℕ). n + length xs) (length-take-le place b (omega arith)) in
      let next : suc at ≡ place + length (xs ++ x ∷ []) = omega (arith, length-append xs (x ∷ [])) in
      ap (λ (l : List ℕ). set l at x)
      (sym (append_assoc (take place b) xs (drop at b)) ∙ ap (λ (l : List ℕ). front ++ l) (drop-cons b at 0 h))
      ∙ set_at front (get_or b at 0) (drop (suc at) b) x at size
      ∙ append_assoc (take place b) xs (x ∷ drop (suc at) b)
      ∙ ap (λ (l : List ℕ). take place b ++ l)
      (sym (append_assoc xs (x ∷ []) (drop (suc at) b)) ∙ ap (λ (n : ℕ). (xs ++ x ∷ []) ++ drop n b) next)

  pub put_length : (place : ℕ) (xs : List ℕ) → place + length xs ≤ length b → length (put_at b place xs) ≡ length b
  unfolding put_at
  put_length place xs h =
      omega (
        arith,
        length-append (take place b) (xs ++ drop (place + length xs) b),
        length-append xs (drop (place + length xs) b),
        length-take-le place b (omega arith),
        length-drop (place + length xs) b,
      )
