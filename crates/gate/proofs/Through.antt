-- "such that a bit pattern meets them all exactly when its value meets the gate": a word that fits is under or over none in its half, and
-- since the fitting words of a half are one run, a word that does not fit is. Assumes nothing.
use mathlib.Core.Path.{◌≡◌, refl, sym, ap, ap₂, subst, ◌∙◌}
use mathlib.Core.Bool.{Bool, true, false, ◌&&◌, and-false, false≢true}
use Prim.Native.Nat.{ℕ, ◌+◌, ◌-◌, ◌≤◌, ◌<◌}
use native.Mathlib.Decide.{dec_lt}
use native.Mathlib.Omega.{arith}
use lib.Dec.{T}
use lib.Ieee.{binary32, le, of_bits, to_bits, Float, fits as is_single}
use lib.Ieee.Bits.{of_bits-to_bits}
use Rattle.word.specs.Word.{half, top}
use Rattle.rule.specs.declared.Rule.{Rule}
use Rattle.rule.specs.Meaning.{fits, meets}
use Rattle.gate.specs.declared.Gate.{Gate}
use Rattle.gate.specs.declared.Gate.TheVariants.{AtLeast, AtMost, Within}
use Rattle.gate.specs.declared.Span.{Span}
use Rattle.gate.specs.Gate.{four_of, gate_rules, listed, meets_gate, not_numbers, through, worth}
use Rattle.gate.specs.Paper.{FailsJust, IsFour, Over, Single, Under, compares}
use Rattle.gate.specs.Value.{le_v, value}
use Rattle.gate.proofs.Asked.{from_zero, is_four}
use Rattle.gate.proofs.Closed.{limits, through_span}
use Rattle.gate.proofs.Halves.{Runs, after, before, inside, nowhere}
use Rattle.gate.proofs.Language.{language_order}
use Rattle.gate.proofs.Limits.{halved, lower_runs, upper_runs, whole}
use Rattle.gate.proofs.Order.{le_v_trans}

holds : (b : Bool) → (b ≡ false → ⊥) → b ≡ true
holds true h = refl
holds false h = absurd (h refl)

-- a word that fits meets each rule
module _ (fit : ℕ → Bool) (x : ℕ) (word : x ≤ top 32) where
  meets_under : (s : ℕ) (r : Rule) → FailsJust (Under fit s) r → fit x ≡ true → meets 32 r x ≡ true
  meets_under s r f e =
      holds (meets 32 r x) (λ n. let u = f.only x word n in false≢true (sym (u.none x u.low (omega arith)) ∙ e))

  meets_over : (s : ℕ) (r : Rule) → FailsJust (Over fit s) r → fit x ≡ true → meets 32 r x ≡ true
  meets_over s r f e =
      holds (meets 32 r x) (λ n. let o = f.only x word n in false≢true (sym (o.none x (omega arith) o.high) ∙ e))

-- a word of a half that does not fit is under or over the run of those that do
module _ (fit : ℕ → Bool) (s from past : ℕ) (run : Runs (λ y. fit (s + y)) from past) (x : ℕ) (low : s ≤ x) (high : x < s + half 32) where
  at : (z : ℕ) → s ≤ z → fit (s + (z - s)) ≡ fit z
  at z h = let e : s + (z - s) ≡ z = omega arith in ap fit e

  left_out : (B : Type 0) → fit x ≡ false → (Under fit s x → B) → (Over fit s x → B) → B
  left_out B e u o = go (dec_lt (x - s) from) (dec_lt from past)
    where
      go : Dec (x - s < from) → Dec (from < past) → B
      go (yes h) d = u (record {
        low = low;
        high = high;
        none = λ z a b. sym (at z a) ∙ before (λ y. fit (s + y)) from past run (z - s) (omega arith) (omega arith);
      })
      go (no h) (yes d) = out (dec_lt (x - s) past)
        where
          out : Dec (x - s < past) → B
          out (yes k) = absurd (false≢true (sym e ∙ sym (at x low) ∙ inside (λ y. fit (s + y)) from past run (x - s) (omega arith) k))
          out (no k) = o (record {
            some = (s + from, omega arith, omega arith, inside (λ y. fit (s + y)) from past run from (omega arith) d);
            high = high;
            none = λ z a b. sym (at z (omega arith)) ∙ after (λ y. fit (s + y)) from past run (z - s) (omega arith) (omega arith);
          })
      go (no h) (no d) = u (record {
        low = low;
        high = high;
        none = λ z a b. sym (at z a) ∙ nowhere (λ y. fit (s + y)) from past run (omega arith) (z - s) (omega arith);
      })

-- so the four decide
module _ (fit : ℕ → Bool) (from past from' past' : ℕ) (lower : Runs fit from past) (upper : Runs (λ y. fit (half 32 + y)) from' past')
    (x : ℕ) (word : x ≤ top 32) where
  decide : fits 32 (listed (four_of fit)) x ≡ fit x
  unfolding fits listed
  decide = go (fit x) refl
    where
      all : IsFour fit (four_of fit)
      all = is_four fit

      go : (b : Bool) → fit x ≡ b
          → (meets 32 (four_of fit).first x && (meets 32 (four_of fit).second x && (meets 32 (four_of fit).third x && (meets 32 (four_of fit).fourth x && true)))) ≡ fit x
      go true e =
          rw (
            meets_under fit x word 0 (four_of fit).first all.first e,
            meets_over fit x word 0 (four_of fit).second all.second e,
            meets_under fit x word (half 32) (four_of fit).third all.third e,
            meets_over fit x word (half 32) (four_of fit).fourth all.fourth e,
          ) (sym e)
      go false e = out (dec_lt x (half 32)) ∙ sym e
        where
          out : Dec (x < half 32)
              → (meets 32 (four_of fit).first x && (meets 32 (four_of fit).second x && (meets 32 (four_of fit).third x && (meets 32 (four_of fit).fourth x && true)))) ≡ false
          out (yes h) =
              left_out fit 0 from past (subst (λ (t : ℕ → Bool). Runs t from past) (sym (from_zero fit)) lower) x (omega arith) (omega arith) _ e (λ u. rw (all.first.fails x word u))
              (λ o. rw (all.second.fails x word o) (and-false (meets 32 (four_of fit).first x)))
          out (no h) =
              left_out fit (half 32) from' past' upper x (omega arith) (omega (arith, halved, whole)) _ e
              (λ u. rw (all.third.fails x word u, and-false (meets 32 (four_of fit).second x)) (and-false (meets 32 (four_of fit).first x)))
              (λ o.
              rw (
                all.fourth.fails x word o,
                and-false (meets 32 (four_of fit).third x),
                and-false (meets 32 (four_of fit).second x),
              ) (and-false (meets 32 (four_of fit).first x)))

module _ (g : Gate) (single : Single g) (x : ℕ) where
  -- "a bit pattern meets them all exactly when its value meets the gate"
  pub exactly : not_numbers g ≡ false → x ≤ top 32 → fits 32 (gate_rules g) x ≡ through g x
  unfolding gate_rules
  exactly numbers word =
      let two = limits g single numbers in
      subst (λ (fit : ℕ → Bool). fits 32 (listed (four_of fit)) x ≡ fit x) (sym (through_span g))
      (decide _ _ _ _ _ (lower_runs _ _ two.0 two.1) (upper_runs _ _ two.0 two.1) x word)

  -- "A reading meets a gate by IEEE 754 comparison"
  pub by_language : through g x ≡ compares g (of_bits binary32 x)
  unfolding through meets_gate worth compares Single
  by_language = go g single
    where
      back : (l : Float) → is_single binary32 l ≡ true → of_bits binary32 (to_bits binary32 l) ≡ l
      back l s = of_bits-to_bits binary32 l (subst T (sym s) tt)

      least : (l : Float) → is_single binary32 l ≡ true → le_v (worth l) (value x) ≡ le l (of_bits binary32 x)
      least l s = language_order (to_bits binary32 l) x ∙ ap (λ (v : Float). le v (of_bits binary32 x)) (back l s)

      most : (h : Float) → is_single binary32 h ≡ true → le_v (value x) (worth h) ≡ le (of_bits binary32 x) h
      most h s = language_order x (to_bits binary32 h) ∙ ap (le (of_bits binary32 x)) (back h s)

      go : (g : Gate) → Single g → through g x ≡ compares g (of_bits binary32 x)
      go (AtLeast l) s = least l s
      go (AtMost h) s = most h s
      go (Within i) s = ap₂ ◌&&◌ (least i.low s.0) (most i.high s.1)

-- "A span with low above high is accepted and fits nothing": where its low limit is not at most its high one, no pattern meets its rules
module _ (s : Span) (single : Single (Within s)) (numbers : not_numbers (Within s) ≡ false) (above : le_v (worth s.low) (worth s.high) ≡ false) where
  pub fits_nothing : (x : ℕ) → x ≤ top 32 → fits 32 (gate_rules (Within s)) x ≡ false
  unfolding through meets_gate
  fits_nothing x word = exactly (Within s) single x numbers word ∙ go (le_v (worth s.low) (value x)) (le_v (value x) (worth s.high)) refl refl
    where
      go : (a b : Bool) → le_v (worth s.low) (value x) ≡ a → le_v (value x) (worth s.high) ≡ b
          → (le_v (worth s.low) (value x) && le_v (value x) (worth s.high)) ≡ false
      go true true d e = absurd (false≢true (sym above ∙ le_v_trans (worth s.low) (value x) (worth s.high) d e))
      go true false d e = rw (d, e)
      go false b d e = rw d
