-- Every rule that a sheet accepts has a text of pieces that say just that rule: the row of its form, or a sign where nothing is added to x. A
-- signed number is the one that the word is read as, and the word of that number is the word. Assumes nothing.
use mathlib.Core.Path.{◌≡◌, refl, ap}
use mathlib.Core.Bool.{Bool, true, false, ◌&&◌}
use mathlib.Core.List.{List, [], ◌∷◌, ◌++◌}
use mathlib.Core.Logic.{⊎_elim}
use Prim.Native.Nat.{ℕ, zero, suc, ◌+◌, ◌-◌, ◌^◌, ◌≤◌, ◌<◌}
use native.Mathlib.Decide.{dec_lt}
use native.Mathlib.Omega.{arith}
use borrow.Author.Tests.{le-leb, lt-ltb}
use lib.Dec.{eqb, eqb-suc-zero}
use lib.Pow.{pow_mono}
use Rattle.word.specs.Word.{IsWidth, half, minus, top}
use Rattle.std.specs.Prelude.{Some}
use Rattle.word.proofs.Sums.{minus_cases, minus_word}
use Rattle.word.proofs.Widths.{half_pos, halves, top-suc}
use Rattle.rule.specs.declared.Rule.{Rule}
use Rattle.rule.specs.Meaning.{rule}
use Rattle.digits.specs.hexadecimal.Text.{bytes_of}
use Rattle.digits.specs.numeral.Numeral.{after_zero, below_zero, digit, next, numeral_from, pointed, value_of}
use Rattle.line.specs.grammar.Grammar.{kind_of}
use Rattle.line.specs.declared.grammar.kind.Kind.TheVariants.{Above, And, AtLeast, AtMost, Below, Equals, For, Not, Plus, Settled, Signed, Since, X}
use Rattle.line.specs.grammar.Kinds.{packed}
use Rattle.line.specs.token.Token.{class_of, is_blank, is_sign, is_word, opened, text_kind}
use Rattle.line.specs.row_rules.Rules.{signed_word}
use Rattle.digits.specs.phrase.Phrase.{signedly}
use Rattle.digits.proofs.phrase.Signed.{signed_high, signed_low}
use Rattle.wording.specs.form_rows.Forms.{form_text}
use Rattle.wording.specs.signs.Signs.{at_least, at_most, before}
use Rattle.wording.specs.Wording.{rule_text}
use Rattle.wording.proofs.echo.Accepted.{Acceptable}
use Rattle.wording.proofs.echo.Pieces.{AllRight, Piece, Right, known, number, spaced, the}
use Rattle.wording.proofs.echo.Rows.{Both, Opening, Say, integer, rows, signed_rows, signs}
use Rattle.wording.proofs.echo.Tokens.{classed, packs, single, text_of}

-- the pieces of a rule's text
pub record Worded (w : ℕ) (r : Rule) : Type 0 where
  pub piece : Piece
  pub pieces : List Piece
  pub right : AllRight (piece ∷ pieces)
  pub text : rule_text w r ≡ spaced (piece ∷ pieces)
  pub says : (after : Bool) (z : Opening) → Say after z w (piece ∷ pieces) r

-- a row, in either sense
module _ (w form c1 c2 : ℕ) (p : Piece) (ps : List Piece) (right : AllRight (p ∷ ps)) where
  by_row : (form_text w (rule form 0 c1 c2) ≡ spaced (p ∷ ps)) → (eqb form 2 && eqb c2 0) ≡ false → (eqb form 3 && eqb c1 0) ≡ false
      → ((after : Bool) (z : Opening) → Both after z w (p ∷ ps) form c1 c2) → (sense : ℕ) → sense ≤ 1 → Worded w (rule form sense c1 c2)
  unfolding rule_text form_text before bytes_of known single classed text_of packs class_of is_word is_sign is_blank opened packed numeral_from next below_zero pointed after_zero digit value_of text_kind kind_of
  by_row text two three both zero h =
      record { piece = p; pieces = ps; right = right; text = rw (two, three) text; says = λ after z. (both after z).0 }
  by_row text two three both (suc zero) h =
      record {
        piece = the Not;
        pieces = p ∷ ps;
        right = (refl, right);
        text = rw (two, three) (ap (λ (l : List ℕ). bytes_of "not " ++ l) text);
        says = λ after z. (both after z).1;
      }
  by_row text two three both (suc (suc s)) h = absurd (omega arith)

-- nothing is added to x
module _ (w n : ℕ) (fits : n ≤ 2 ^ 64 - 1) where
  by_sign_2 : (sense : ℕ) → sense ≤ 1 → Worded w (rule 2 sense n 0)
  unfolding rule_text form_text before bytes_of known single classed text_of packs class_of is_word is_sign is_blank opened packed numeral_from next below_zero pointed after_zero digit value_of text_kind kind_of at_least
  by_sign_2 zero h =
      record { piece = the X; pieces = the AtLeast ∷ number n ∷ []; right = (refl, (refl, (fits, tt))); text = refl; says = λ after z. (signs after z w n).0 }
  by_sign_2 (suc zero) h =
      record { piece = the X; pieces = the Below ∷ number n ∷ []; right = (refl, (refl, (fits, tt))); text = refl; says = λ after z. (signs after z w n).1 }
  by_sign_2 (suc (suc s)) h = absurd (omega arith)

  by_sign_3 : (sense : ℕ) → sense ≤ 1 → Worded w (rule 3 sense 0 n)
  unfolding rule_text form_text before bytes_of known single classed text_of packs class_of is_word is_sign is_blank opened packed numeral_from next below_zero pointed after_zero digit value_of text_kind kind_of at_most
  by_sign_3 zero h =
      record { piece = the X; pieces = the AtMost ∷ number n ∷ []; right = (refl, (refl, (fits, tt))); text = refl; says = λ after z. (signs after z w n).2 }
  by_sign_3 (suc zero) h =
      record { piece = the X; pieces = the Above ∷ number n ∷ []; right = (refl, (refl, (fits, tt))); text = refl; says = λ after z. (signs after z w n).3 }
  by_sign_3 (suc (suc s)) h = absurd (omega arith)

-- ---- a signed number

-- the number that a word is read as: the word itself, or what is missing to 2^w, with a minus
module _ (w : ℕ) (width : IsWidth w) (c : ℕ) (word : c ≤ top w) where
  record Read : Type 0 where
    minus_sign : Bool
    size : ℕ
    fits : size ≤ 2 ^ 64 - 1
    text : signedly w c ≡ spaced (integer minus_sign size ∷ [])
    back : signed_word w minus_sign size ≡ Some c

  read_so : Read
  unfolding signed_word
  read_so = go (dec_lt c (half w))
    where
      large : top w ≤ 2 ^ 64 - 1
      large = omega (arith, pow_mono {i = w} {j = 64} width.high, top-suc w)

      go : Dec (c < half w) → Read
      go (yes h) = record { minus_sign = false; size = c; fits = omega (arith, large); text = signed_low w c h; back = rw (lt-ltb c (half w) h) }
      go (no h) =
          let m = minus w 0 c in
          let s = minus_word w 0 c in
          let two = halves w width.low in
          let e : m + c ≡ suc (top w) = ⊎_elim (λ p. absurd (omega (arith, half_pos w))) (λ p. omega (arith, p.1)) (minus_cases w 0 c (omega arith) word) in
          let d : minus w 0 m ≡ c = ⊎_elim (λ p. absurd (omega arith)) (λ p. omega (arith, p.1)) (minus_cases w 0 m (omega arith) s) in
          record {
            minus_sign = true;
            size = m;
            fits = omega (arith, large);
            text = signed_high w c (omega arith);
            back = rw (le-leb m (half w) (omega arith)) (ap Some d);
          }

right_integer : (b : Bool) (n : ℕ) → n ≤ 2 ^ 64 - 1 → Right (integer b n)
right_integer true n h = h
right_integer false n h = h

-- ---- each form

module _ (w : ℕ) (width : IsWidth w) where
  fits : {c : ℕ} → c ≤ top w → c ≤ 2 ^ 64 - 1
  fits h = omega (arith, pow_mono {i = w} {j = 64} width.high, top-suc w)

  by_form : (form sense c1 c2 : ℕ) → Acceptable w (rule form sense c1 c2) → Worded w (rule form sense c1 c2)
  unfolding form_text bytes_of known single classed text_of packs class_of is_word is_sign is_blank opened packed numeral_from next below_zero pointed after_zero digit value_of text_kind kind_of
  by_form zero sense c1 c2 a = absurd (omega (arith, a.low))
  by_form (suc zero) sense c1 c2 a =
      by_row w 1 c1 c2 (the X) (the Plus ∷ number c1 ∷ the AtMost ∷ the X ∷ the Plus ∷ number c2 ∷ []) (refl, (refl, (fits a.c1_word, (refl, (refl, (refl, (fits a.c2_word, tt))))))) refl refl refl
      (λ after z. (rows after z w c1 c2).0) sense a.sense
  by_form (suc (suc zero)) sense c1 zero a = by_sign_2 w c1 (fits a.c1_word) sense a.sense
  by_form (suc (suc zero)) sense c1 (suc c2) a =
      by_row w 2 c1 (suc c2) (number c1) (the AtMost ∷ the X ∷ the Plus ∷ number (suc c2) ∷ []) (fits a.c1_word, (refl, (refl, (refl, (fits a.c2_word, tt))))) refl (eqb-suc-zero c2) refl
      (λ after z. (rows after z w c1 (suc c2)).1) sense a.sense
  by_form (suc (suc (suc zero))) sense zero c2 a = by_sign_3 w c2 (fits a.c2_word) sense a.sense
  by_form (suc (suc (suc zero))) sense (suc c1) c2 a =
      by_row w 3 (suc c1) c2 (the X) (the Plus ∷ number (suc c1) ∷ the AtMost ∷ number c2 ∷ []) (refl, (refl, (fits a.c1_word, (refl, (fits a.c2_word, tt))))) refl refl (eqb-suc-zero c1)
      (λ after z. (rows after z w (suc c1) c2).2) sense a.sense
  by_form (suc (suc (suc (suc zero)))) sense c1 zero a =
      let q = read_so w width c1 a.c1_word in
      let n = integer q.minus_sign q.size in
      by_row w 4 c1 0 (the Signed) (the X ∷ the AtMost ∷ n ∷ []) (refl, (refl, (refl, (right_integer q.minus_sign q.size q.fits, tt)))) (ap (λ (l : List ℕ). bytes_of "signed x <= " ++ l) q.text) refl refl
      (λ after z. (signed_rows after q.minus_sign z w q.size c1 q.back).0) sense a.sense
  by_form (suc (suc (suc (suc zero)))) sense c1 (suc c2) a = absurd (omega (arith, a.alone (omega arith) (omega arith)))
  by_form (suc (suc (suc (suc (suc zero))))) sense c1 zero a =
      let q = read_so w width c1 a.c1_word in
      let n = integer q.minus_sign q.size in
      by_row w 5 c1 0 n (the AtMost ∷ the Signed ∷ the X ∷ []) (right_integer q.minus_sign q.size q.fits, (refl, (refl, (refl, tt)))) (ap (λ (l : List ℕ). l ++ bytes_of " <= signed x") q.text) refl refl
      (λ after z. (signed_rows after q.minus_sign z w q.size c1 q.back).1) sense a.sense
  by_form (suc (suc (suc (suc (suc zero))))) sense c1 (suc c2) a = absurd (omega (arith, a.alone (omega arith) (omega arith)))
  by_form (suc (suc (suc (suc (suc (suc zero)))))) sense c1 zero a =
      by_row w 6 c1 0 (the X) (the Equals ∷ number c1 ∷ []) (refl, (refl, (fits a.c1_word, tt))) refl refl refl
      (λ after z. (rows after z w c1 0).3) sense a.sense
  by_form (suc (suc (suc (suc (suc (suc zero)))))) sense c1 (suc c2) a = absurd (omega (arith, a.alone (omega arith) (omega arith)))
  by_form (suc (suc (suc (suc (suc (suc (suc zero))))))) sense c1 c2 a =
      by_row w 7 c1 c2 (the X) (the And ∷ number c1 ∷ the Equals ∷ number c2 ∷ []) (refl, (refl, (fits a.c1_word, (refl, (fits a.c2_word, tt))))) refl refl refl
      (λ after z. (rows after z w c1 c2).4) sense a.sense
  by_form (suc (suc (suc (suc (suc (suc (suc (suc zero)))))))) sense c1 c2 a =
      by_row w 8 c1 c2 (the Settled) (the Since ∷ number c1 ∷ the For ∷ number c2 ∷ []) (refl, (refl, (fits a.c1_word, (refl, (fits a.c2_word, tt))))) refl refl refl
      (λ after z. (rows after z w c1 c2).5) sense a.sense
  by_form (suc (suc (suc (suc (suc (suc (suc (suc (suc form))))))))) sense c1 c2 a = absurd (omega (arith, a.high))

  pub worded : (r : Rule) → Acceptable w r → Worded w r
  worded r a = by_form r.form r.sense r.c1 r.c2 a
