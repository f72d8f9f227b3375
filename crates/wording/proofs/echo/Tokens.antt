-- What the letters of one token do to a scan: after a blank the first letter begins it, and each other one goes on with it. Assumes nothing.
use mathlib.Core.Path.{◌≡◌, refl, sym, ap, ap₂, ◌∙◌}
use mathlib.Core.Bool.{Bool, true, false, false≢true, ◌&&◌, cond}
use mathlib.Core.List.{List, [], ◌∷◌, ◌++◌}
use Prim.Native.Nat.{ℕ, suc, ◌+◌}
use native.Mathlib.Nat.{add-suc, add-zero, suc-add}
use lib.ListN.{length}
use Rattle.word.proofs.Tests.{both_pass}
use Rattle.digits.specs.declared.numeral.Numeral.{Numeral}
use Rattle.digits.specs.numeral.Numeral.{next, numeral_from, start}
use Rattle.std.specs.Prelude.{is_some}
use Rattle.line.specs.grammar.Kinds.{packed}
use Rattle.line.specs.declared.token.class.Class.{Class}
use Rattle.line.specs.declared.token.class.Class.TheVariants.{Blank, Comment}
use Rattle.line.specs.token.Token.{begun, class_of, more, opened, same, token}
use Rattle.line.proofs.token.Classes.{not_same, same_equal, same_one}
use Rattle.line.specs.declared.scan.Scan.{Scan}
use Rattle.line.specs.scan.Scan.{with_token}
use Rattle.line.specs.scanning.Scanning.{closed, step, steps}

-- all letters have a class
unfoldable pub classed : Class → List ℕ → Bool
classed c [] = true
classed c (b ∷ bs) = same (class_of b) c && classed c bs

-- the letters of one token, the first of which may be a minus
unfoldable pub single : Class → List ℕ → Bool
single c [] = false
single c (b ∷ bs) = same (opened (class_of b)) c && classed c bs

-- what is packed of them
unfoldable pub packs : ℕ → List ℕ → ℕ
packs t [] = t
packs t (b ∷ bs) = packs (packed t b) bs

unfoldable pub text_of : List ℕ → ℕ
text_of [] = 0
text_of (b ∷ bs) = packs b bs

pub steps_more : (s : Scan) (at : ℕ) (xs ys : List ℕ) → steps s at (xs ++ ys) ≡ steps (steps s at xs) (at + length xs) ys
unfolding steps
steps_more s at [] ys = ap (λ (k : ℕ). steps s k ys) (sym (add-zero at))
steps_more s at (x ∷ xs) ys =
    steps_more (step s x at) (suc at) xs ys
    ∙ ap (λ (k : ℕ). steps (steps (step s x at) (suc at) xs) k ys) (suc-add at (length xs) ∙ sym (add-suc at (length xs)))

module _ (s : Scan) (c : Class) (from : ℕ) where
  one_more : (text : ℕ) (n : Numeral) (b at : ℕ) → class_of b ≡ c
      → step (with_token s (token c from text n)) b at ≡ with_token s (token c from (packed text b) (next n b))
  unfolding step with_token more
  one_more text n b at h = rw (same_equal c (class_of b) (sym h))

  goes_on : (text : ℕ) (n : Numeral) (at : ℕ) (bs : List ℕ) → classed c bs ≡ true
      → steps (with_token s (token c from text n)) at bs ≡ with_token s (token c from (packs text bs) (numeral_from n bs))
  unfolding steps classed packs numeral_from
  goes_on text n at [] h = refl
  goes_on text n at (b ∷ bs) h =
      let p = both_pass (same (class_of b) c) (classed c bs) h in
      ap (λ (z : Scan). steps z (suc at) bs) (one_more text n b at (same_one (class_of b) c p.0)) ∙ goes_on (packed text b) (next n b) (suc at) bs p.1

open_blank : opened Blank ≡ Blank
unfolding opened
open_blank = refl

module _ (s : Scan) (blank : s.token.class ≡ Blank) where
  either : (b : Bool) → cond b s s ≡ s
  either true = refl
  either false = refl

  stays : (at : ℕ) → closed s at ≡ s
  unfolding closed
  stays at = rw (same_equal s.token.class Blank blank) (either (is_some s.mistake))

  begins : (c : Class) (b at : ℕ) → (c ≡ Blank → ⊥) → opened (class_of b) ≡ c → step s b at ≡ with_token s (token c at b (next start b))
  unfolding step begun
  begins c b at n o =
      let other : s.token.class ≡ class_of b → ⊥ = λ e. n (sym o ∙ ap opened (sym e ∙ blank) ∙ open_blank) in
      let plain : same s.token.class Comment ≡ false = rw blank refl in
      rw (not_same s.token.class (class_of b) other, plain)
      (ap₂ with_token (stays at) (ap (λ (k : Class). token k at b (next start b)) o))

  -- after a blank, the letters of one token are that token
  pub one_token : (c : Class) (at : ℕ) (l : List ℕ) → (c ≡ Blank → ⊥) → single c l ≡ true
      → steps s at l ≡ with_token s (token c at (text_of l) (numeral_from start l))
  unfolding steps single text_of numeral_from
  one_token c at [] n h = absurd (false≢true h)
  one_token c at (b ∷ bs) n h =
      let p = both_pass (same (opened (class_of b)) c) (classed c bs) h in
      ap (λ (z : Scan). steps z (suc at) bs) (begins c b at n (same_one (opened (class_of b)) c p.0)) ∙ goes_on s c at b (next start b) (suc at) bs p.1
