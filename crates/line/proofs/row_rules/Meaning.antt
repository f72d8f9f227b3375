-- Each row of a rule means its sentence, for every number and every word of the width: the sugar rows are a form with 0, or a form
-- turned, and a signed number is the word whose signed reading it is. Assumes nothing.
use mathlib.Core.Path.{◌≡◌, refl, sym, ap, ◌∙◌}
use mathlib.Core.Bool.{Bool, true, false, not, ◌&&◌, cond}
use Prim.Native.Nat.{ℕ, zero, suc, ◌+◌, ◌-◌, ◌≤◌, ◌<◌}
use native.Mathlib.Decide.{dec_le, dec_lt}
use native.Mathlib.Omega.{arith}
use borrow.Author.Tests.{le-leb, le-ltb, lt-leb, lt-ltb}
use mathlib.Core.Logic.{⊎_elim}
use lib.Bits.{bit_and}
use lib.Dec.{eqb, leb, ltb}
use lib.IntN.{ℤ, pos, negsuc}
use lib.Signed.{le_z}
use Rattle.word.specs.Word.{half, minus, plus, signed, top}
use Rattle.std.specs.Prelude.{Some, None}
use Rattle.word.proofs.Signed.{high, low}
use Rattle.word.proofs.Sums.{minus_cases, plus_cases}
use Rattle.word.proofs.Widths.{half_pos, halves}
use Rattle.rule.specs.Meaning.{meets, rows, written}
use Rattle.rule.proofs.accept.Choices.{above}
use Rattle.line.specs.row_rules.Rules.{rule_at, rule_of, signed_word}

module _ (w m x : ℕ) (word : x ≤ top w) where
  -- 0 more is the word itself
  itself : plus w 0 x ≡ x
  itself = ⊎_elim (λ p. omega (arith, p.1)) (λ p. absurd (omega arith)) (plus_cases w 0 x (omega arith) word)

  pub means_at_most : (n : ℕ) → meets w (rule_at 0 n m) x ≡ leb x m
  unfolding meets written rows rule_at
  means_at_most n = ap (λ (y : ℕ). leb y m) itself

  pub means_below : (n : ℕ) → meets w (rule_at 1 n m) x ≡ ltb x m
  unfolding meets written rows rule_at
  means_below n = ap (λ (y : ℕ). not (leb m y)) itself ∙ sym (above m x)

  pub means_at_least : (n : ℕ) → meets w (rule_at 2 n m) x ≡ leb m x
  unfolding meets written rows rule_at
  means_at_least n = ap (leb m) itself

  pub means_above : (n : ℕ) → meets w (rule_at 3 n m) x ≡ ltb m x
  unfolding meets written rows rule_at
  means_above n = ap (λ (y : ℕ). not (leb y m)) itself ∙ sym (above x m)

  pub means_equals : (n : ℕ) → meets w (rule_at 4 n m) x ≡ eqb x m
  unfolding meets written rows rule_at
  means_equals n = refl

-- the number that is written, with its sign
abbrev pub integer : Bool → ℕ → ℤ
integer false n = pos n
integer true zero = pos 0
integer true (suc n) = negsuc n

module _ (w : ℕ) (width : 1 ≤ w) where
  negative : (n : ℕ) → n ≤ half w → signed w (minus w 0 n) ≡ integer true n
  negative zero h =
      let e : minus w 0 0 ≡ 0 = ⊎_elim (λ p. omega arith) (λ p. absurd (omega arith)) (minus_cases w 0 0 (omega arith) (omega arith)) in
      ap (signed w) e ∙ low w 0 (omega (arith, half_pos w))
  negative (suc n) h =
      let t : half w ≤ top w = omega (arith, halves w width, half_pos w) in
      let e : minus w 0 (suc n) + suc n ≡ suc (top w) =
      ⊎_elim (λ p. absurd (omega arith)) (λ p. omega arith) (minus_cases w 0 (suc n) (omega arith) (omega arith)) in
      let d : top w - minus w 0 (suc n) ≡ n = omega arith in
      high w (minus w 0 (suc n)) (omega (arith, halves w width)) (omega arith) ∙ ap negsuc d

  -- the word of a signed number reads as that number
  pub reads_back : (b : Bool) (n c : ℕ) → signed_word w b n ≡ Some c → signed w c ≡ integer b n
  unfolding signed_word
  reads_back true n c e = go (dec_le n (half w)) e
    where
      go : Dec (n ≤ half w) → cond (leb n (half w)) (Some (minus w 0 n)) None ≡ Some c → signed w c ≡ integer true n
      go (yes h) e = let s : Some (minus w 0 n) ≡ Some c = rw (le-leb n (half w) h) at e in let t : minus w 0 n ≡ c = cc in ap (signed w) (sym t) ∙ negative n h
      go (no h) e = let s : None ≡ Some c = rw (lt-leb n (half w) (omega arith)) at e in let z : ◌≡◌ {A = ℕ} 0 1 = cc in absurd (omega arith)
  reads_back false n c e = go (dec_lt n (half w)) e
    where
      go : Dec (n < half w) → cond (ltb n (half w)) (Some n) None ≡ Some c → signed w c ≡ integer false n
      go (yes h) e = let s : Some n ≡ Some c = rw (lt-ltb n (half w) h) at e in let t : n ≡ c = cc in ap (signed w) (sym t) ∙ low w n h
      go (no h) e = let s : None ≡ Some c = rw (le-ltb n (half w) (omega arith)) at e in let z : ◌≡◌ {A = ℕ} 0 1 = cc in absurd (omega arith)

module _ (w m x : ℕ) (z : ℤ) (same : signed w m ≡ z) where
  pub means_signed_at_most : (n : ℕ) → (meets w (rule_at 9 n m) x ≡ le_z (signed w x) z) × (meets w (rule_at 10 n m) x ≡ le_z (signed w x) z)
  unfolding meets written rows rule_at
  means_signed_at_most n = (ap (le_z (signed w x)) same, ap (le_z (signed w x)) same)

  pub means_signed_at_least : (n : ℕ) → (meets w (rule_at 11 n m) x ≡ le_z z (signed w x)) × (meets w (rule_at 12 n m) x ≡ le_z z (signed w x))
  unfolding meets written rows rule_at
  means_signed_at_least n = (ap (λ (y : ℤ). le_z y (signed w x)) same, ap (λ (y : ℤ). le_z y (signed w x)) same)

-- the rows with two numbers: the sums and differences are those of words, which wrap
module _ (w n m x : ℕ) where
  pub means_sum_at_most : meets w (rule_at 5 n m) x ≡ leb (plus w n x) m
  unfolding meets written rows rule_at
  means_sum_at_most = refl

  pub means_sums : meets w (rule_at 6 n m) x ≡ leb (plus w n x) (plus w m x)
  unfolding meets written rows rule_at
  means_sums = refl

  pub means_sum_at_least : meets w (rule_at 7 n m) x ≡ leb n (plus w m x)
  unfolding meets written rows rule_at
  means_sum_at_least = refl

  pub means_bits : meets w (rule_at 8 n m) x ≡ eqb (bit_and x n) m
  unfolding meets written rows rule_at
  means_bits = refl

  pub means_settled : meets w (rule_at 13 n m) x ≡ leb m (minus w x n) && ltb (minus w x n) (half w)
  unfolding meets written rows rule_at
  means_settled = refl

-- without `not` a row is its rule, and with it a word meets the rule just where it fails that one: so of every row and every word of every
-- width. Of the row on bits too, but no sheet accepts that one turned (4).
module _ (w row n m x : ℕ) where
  pub means_plain : rule_of row false n m ≡ rule_at row n m
  unfolding rule_of
  means_plain = refl

  pub means_not : meets w (rule_of row true n m) x ≡ not (meets w (rule_of row false n m) x)
  unfolding meets written rule_of
  means_not = go (eqb (rule_at row n m).sense 0) (written w (rule_at row n m) x)
    where
      go : (plain t : Bool) → cond (eqb (cond plain 1 0) 0) t (not t) ≡ not (cond plain t (not t))
      go true t = refl
      go false true = refl
      go false false = refl
