-- The bits that rules fix are had by just the words that meet the rules' form 7, and stay tidy and within a word.
-- By induction on the rules, from one rule joined to the bits so far. Assumes nothing.
use mathlib.Core.Path.{◌≡◌, refl, sym, ap, ap₂, ◌∙◌, subst}
use mathlib.Core.Bool.{Bool, true, false, ◌&&◌, cond, false≢true, and-true, and_assoc}
use mathlib.Core.List.{List, [], ◌∷◌, ◌++◌}
use Prim.Native.Nat.{ℕ, suc, ◌≤◌, ◌<◌}
use native.Mathlib.Omega.{arith}
use borrow.Author.Tests.{eqb-true, eq-eqb}
use lib.Bits.{bit_and, bit_or, and_zero_r, or_comm, or_lt}
use lib.Dec.{eqb}
use lib.ListN.{length, get_or, take}
use lib.Seq.{take-suc}
use Rattle.word.specs.Word.{top}
use Rattle.word.proofs.Tests.{both_pass, same_test}
use Rattle.word.proofs.Widths.{top-suc}
use Rattle.rule.specs.declared.Rule.{Rule}
use Rattle.rule.specs.Meaning.{AllLawful, Lawful, meets, meets7, rows}
use Rattle.rule.proofs.Rows.{as_written, at_row}
use Rattle.rule.specs.declared.bits.Fixed.{Fixed}
use Rattle.rule.specs.declared.bits.Fixed.TheVariants.{Bits, Clash}
use Rattle.rule.specs.bits.route.Fixed.{has_bits, agrees, both, joined, fixed_from, fixed_bits, Tidy, Within}
use Rattle.rule.proofs.bits.Bit.{and_twice, and_swap, and_both, or_tidy, and_first}

-- agreeing is two facts
agreed : (m v c1 c2 : ℕ) → agrees m v c1 c2 ≡ true → (bit_and c2 c1 ≡ c2) × (bit_and v c1 ≡ bit_and c2 m)
unfolding agrees
agreed m v c1 c2 e = let p = both_pass _ _ e in (eqb-true _ _ p.0, eqb-true _ _ p.1)

module _ (m v c1 c2 x : ℕ) where
  -- one word that has both shows that they agree
  meet_agrees : bit_and x m ≡ v → bit_and x c1 ≡ c2 → agrees m v c1 c2 ≡ true
  unfolding agrees
  meet_agrees p q =
      ap₂ ◌&&◌
      (eq-eqb _ _ (subst (λ (d : ℕ). bit_and d c1 ≡ d) q (and_twice x c1)))
      (eq-eqb _ _ (ap (λ (y : ℕ). bit_and y c1) (sym p) ∙ and_swap x m c1 ∙ ap (λ (y : ℕ). bit_and y m) q))

  two_values : bit_and v m ≡ v → has_bits (both (Bits m v) c1 c2) x ≡ (eqb (bit_and x m) v && eqb (bit_and x c1) c2)
  unfolding has_bits both
  two_values t = go (agrees m v c1 c2) refl
    where
      apart : agrees m v c1 c2 ≡ true → bit_and x (bit_or m c1) ≡ bit_or v c2 → (eqb (bit_and x m) v && eqb (bit_and x c1) c2) ≡ true
      apart e g =
          let a = agreed m v c1 c2 e in
          ap₂ ◌&&◌
          (eq-eqb _ _ (and_first x m v c1 c2 t a.1 g))
          (eq-eqb _ _ (and_first x c1 c2 m v a.0 (sym a.1) (ap (bit_and x) (or_comm c1 m) ∙ g ∙ or_comm v c2)))

      go : (s : Bool) → agrees m v c1 c2 ≡ s → has_bits (cond s (Bits (bit_or m c1) (bit_or v c2)) Clash) x ≡ (eqb (bit_and x m) v && eqb (bit_and x c1) c2)
      go true e =
          same_test _ _ (λ h. apart e (eqb-true _ _ h))
          (λ h. let p = both_pass _ _ h in eq-eqb _ _ (and_both x m c1 ∙ ap₂ bit_or (eqb-true (bit_and x m) v p.0) (eqb-true (bit_and x c1) c2 p.1)))
      go false e =
          same_test false _ (λ h. absurd (false≢true h))
          (λ h. let p = both_pass _ _ h in sym e ∙ meet_agrees (eqb-true _ _ p.0) (eqb-true _ _ p.1))

both_has : (f : Fixed) (c1 c2 x : ℕ) → Tidy f → has_bits (both f c1 c2) x ≡ (has_bits f x && eqb (bit_and x c1) c2)
unfolding has_bits both Tidy
both_has (Bits m v) c1 c2 x t = two_values m v c1 c2 x t
both_has Clash c1 c2 x t = refl

joined_has : (w : ℕ) (f : Fixed) (r : Rule) (x : ℕ) → Tidy f → Lawful w r
    → has_bits (joined f r) x ≡ (has_bits f x && cond (eqb r.form 7) (meets w r x) true)
unfolding joined rows
joined_has w f r x t l = go (eqb r.form 7) refl
  where
    go : (s : Bool) → eqb r.form 7 ≡ s → has_bits (cond s (both f r.c1 r.c2) f) x ≡ (has_bits f x && cond s (meets w r x) true)
    go true e =
        let h : r.form ≡ 7 = eqb-true _ _ e in
        both_has f r.c1 r.c2 x t ∙ ap (λ (b : Bool). has_bits f x && b) (sym (as_written w r x (l.plain h) ∙ at_row w r x 7 h))
    go false e = sym (and-true (has_bits f x))

both_tidy : (f : Fixed) (c1 c2 : ℕ) → Tidy f → Tidy (both f c1 c2)
unfolding both Tidy
both_tidy (Bits m v) c1 c2 t = go (agrees m v c1 c2) refl
  where
    go : (s : Bool) → agrees m v c1 c2 ≡ s → Tidy (cond s (Bits (bit_or m c1) (bit_or v c2)) Clash)
    go true e = or_tidy m v c1 c2 t (agreed m v c1 c2 e).0
    go false e = tt
both_tidy Clash c1 c2 t = tt

joined_tidy : (f : Fixed) (r : Rule) → Tidy f → Tidy (joined f r)
unfolding joined
joined_tidy f r t = go (eqb r.form 7)
  where
    go : (s : Bool) → Tidy (cond s (both f r.c1 r.c2) f)
    go true = both_tidy f r.c1 r.c2 t
    go false = t

both_within : (w : ℕ) (f : Fixed) (c1 c2 : ℕ) → c1 ≤ top w → Within w f → Within w (both f c1 c2)
unfolding both Within
both_within w (Bits m v) c1 c2 h i = go (agrees m v c1 c2)
  where
    go : (s : Bool) → Within w (cond s (Bits (bit_or m c1) (bit_or v c2)) Clash)
    go true = omega (arith, top-suc w, or_lt w m c1 (omega (arith, top-suc w)) (omega (arith, top-suc w)))
    go false = tt
both_within w Clash c1 c2 h i = tt

joined_within : (w : ℕ) (f : Fixed) (r : Rule) → Lawful w r → Within w f → Within w (joined f r)
unfolding joined
joined_within w f r l i = go (eqb r.form 7)
  where
    go : (s : Bool) → Within w (cond s (both f r.c1 r.c2) f)
    go true = both_within w f r.c1 r.c2 l.c1_word i
    go false = i

from_bits : (w : ℕ) (f : Fixed) (rs : List Rule) (x : ℕ) → Tidy f → AllLawful w rs → has_bits (fixed_from f rs) x ≡ (has_bits f x && meets7 w rs x)
unfolding fixed_from AllLawful meets7
from_bits w f [] x t l = sym (and-true (has_bits f x))
from_bits w f (r ∷ rs) x t l =
    from_bits w (joined f r) rs x (joined_tidy f r t) l.1
    ∙ ap (λ (b : Bool). b && meets7 w rs x) (joined_has w f r x t l.0)
    ∙ and_assoc (has_bits f x) (cond (eqb r.form 7) (meets w r x) true) (meets7 w rs x)

from_tidy : (f : Fixed) (rs : List Rule) → Tidy f → Tidy (fixed_from f rs)
unfolding fixed_from
from_tidy f [] t = t
from_tidy f (r ∷ rs) t = from_tidy (joined f r) rs (joined_tidy f r t)

from_within : (w : ℕ) (f : Fixed) (rs : List Rule) → AllLawful w rs → Within w f → Within w (fixed_from f rs)
unfolding fixed_from AllLawful
from_within w f [] l i = i
from_within w f (r ∷ rs) l i = from_within w (joined f r) rs l.1 (joined_within w f r l.0 i)

-- "the word x meets all form 7 rules" when it has the bits that they fix
pub fixed_bits_lem : (w : ℕ) (rs : List Rule) (x : ℕ) → AllLawful w rs → has_bits (fixed_bits rs) x ≡ meets7 w rs x
unfolding fixed_bits Tidy has_bits
fixed_bits_lem w rs x l = from_bits w (Bits 0 0) rs x refl l ∙ ap (λ (b : Bool). b && meets7 w rs x) (eq-eqb _ _ (and_zero_r x))

pub fixed_tidy : (rs : List Rule) → Tidy (fixed_bits rs)
unfolding fixed_bits Tidy
fixed_tidy rs = from_tidy (Bits 0 0) rs refl

pub fixed_within : (w : ℕ) (rs : List Rule) → AllLawful w rs → Within w (fixed_bits rs)
unfolding fixed_bits Within
fixed_within w rs l = from_within w (Bits 0 0) rs l (omega arith)

from_snoc : (f : Fixed) (rs : List Rule) (r : Rule) → fixed_from f (rs ++ (r ∷ [])) ≡ joined (fixed_from f rs) r
unfolding fixed_from
from_snoc f [] r = refl
from_snoc f (s ∷ rs) r = from_snoc (joined f s) rs r

-- one rule more
pub fixed_suc : (rs : List Rule) (i : ℕ) (d : Rule) → i < length rs → joined (fixed_bits (take i rs)) (get_or rs i d) ≡ fixed_bits (take (suc i) rs)
unfolding fixed_bits
fixed_suc rs i d h = sym (ap (fixed_from (Bits 0 0)) (take-suc rs i d h) ∙ from_snoc (Bits 0 0) (take i rs) (get_or rs i d))
