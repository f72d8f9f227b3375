-- A rule of form 3, sense 0 fails one run of words: those that its first constant carries past its second. So its constants are read off
-- the run, and no other such rule fails just these words. Assumes nothing.
use mathlib.Core.Path.{◌≡◌, refl, sym, ap, ap₂, ◌∙◌}
use mathlib.Core.Bool.{true, not, ◌&&◌, and-false, cond}
use mathlib.Core.Logic.{◌⊎◌, inl, inr, ⊎_elim}
use Prim.Native.Nat.{ℕ, suc, ◌+◌, ◌-◌, ◌^◌, ◌≤◌, ◌<◌}
use native.Mathlib.Decide.{dec_le, dec_lt, ℕ_discrete}
use native.Mathlib.Omega.{arith}
use lib.Dec.{leb, ltb}
use borrow.Author.Tests.{le-leb, le-ltb, leb-false, leb-true, lt-leb, lt-ltb}
use Rattle.word.specs.Word.{minus, plus, top}
use Rattle.word.proofs.Sums.{minus_cases, minus_word, plus_cases}
use Rattle.rule.specs.Meaning.{meets, rows, rule}
use Rattle.rule.proofs.Rows.{as_written, at_row}
use Rattle.rule.proofs.Slips.{form_3_top}
use Rattle.gate.specs.Gate.{failing}

pub form_3 : (w a b x : ℕ) → meets w (rule 3 0 a b) x ≡ leb (plus w a x) b
unfolding rows
form_3 w a b x = as_written w (rule 3 0 a b) x refl ∙ at_row w (rule 3 0 a b) x 3 refl

-- the constant that carries b to zero
carries : (b : ℕ) → 0 < b → b ≤ suc (top 32) → minus 32 0 b + b ≡ suc (top 32)
unfolding minus top
carries b h k = go (dec_le b (top 32))
  where
    go : Dec (b ≤ top 32) → minus 32 0 b + b ≡ suc (top 32)
    go (yes l) = ⊎_elim (λ p. absurd (omega arith)) (λ p. p.1) (minus_cases 32 0 b (omega arith) l)
    go (no l) = let e : b ≡ 2 ^ 32 = omega arith in rw e

-- a word outside the run
outside : (a b x : ℕ) → (x < a) ⊎ (b ≤ x) → not (leb a x && ltb x b) ≡ true
outside a b x (inl h) = rw (lt-leb a x h)
outside a b x (inr h) = rw (le-ltb x b h, and-false)

module _ (a b : ℕ) (end : b ≤ suc (top 32)) (part : b ≤ a + top 32) (x : ℕ) (word : x ≤ top 32) where
  carried : a < b → leb (plus 32 (minus 32 0 b) x) (top 32 - (b - a)) ≡ not (leb a x && ltb x b)
  carried h = go (dec_lt x a) (dec_lt x b) (plus_cases 32 (minus 32 0 b) x (minus_word 32 0 b) word)
    where
      start : minus 32 0 b + b ≡ suc (top 32)
      start = carries b (omega arith) end

      go : Dec (x < a) → Dec (x < b)
          → ((minus 32 0 b + x ≤ top 32) × (plus 32 (minus 32 0 b) x ≡ minus 32 0 b + x))
          ⊎ ((top 32 < minus 32 0 b + x) × (plus 32 (minus 32 0 b) x + suc (top 32) ≡ minus 32 0 b + x))
          → leb (plus 32 (minus 32 0 b) x) (top 32 - (b - a)) ≡ not (leb a x && ltb x b)
      go (yes p) q (inl r) = le-leb (plus 32 (minus 32 0 b) x) (top 32 - (b - a)) (omega (arith, start)) ∙ sym (outside a b x (inl p))
      go (yes p) q (inr r) = absurd (omega (arith, start))
      go (no p) (yes q) (inl r) = lt-leb (plus 32 (minus 32 0 b) x) (top 32 - (b - a)) (omega (arith, start)) ∙ sym (ap not (ap₂ ◌&&◌ (le-leb a x (omega (arith, start))) (lt-ltb x b q)))
      go (no p) (yes q) (inr r) = absurd (omega (arith, start))
      go (no p) (no q) (inl r) = absurd (omega (arith, start))
      go (no p) (no q) (inr r) = le-leb (plus 32 (minus 32 0 b) x) (top 32 - (b - a)) (omega (arith, start)) ∙ sym (outside a b x (inr (omega (arith, start))))

  pub fails_between : meets 32 (failing a b) x ≡ not (leb a x && ltb x b)
  unfolding failing
  fails_between = go (dec_lt a b) (dec_lt x a)
    where
      go : Dec (a < b) → Dec (x < a)
          → meets 32 (cond (ltb a b) (rule 3 0 (minus 32 0 b) (top 32 - (b - a))) (rule 3 0 0 (top 32))) x ≡ not (leb a x && ltb x b)
      go (yes h) p = rw (lt-ltb a b h) (form_3 32 (minus 32 0 b) (top 32 - (b - a)) x ∙ carried h)
      go (no h) (yes p) = rw (le-ltb a b (omega arith)) (form_3_top 32 x ∙ sym (outside a b x (inl p)))
      go (no h) (no p) = rw (le-ltb a b (omega arith)) (form_3_top 32 x ∙ sym (outside a b x (inr (omega arith))))

-- the word that the constant a carries to v
carried_to : (w a v : ℕ) → a ≤ top w → v ≤ top w → plus w a (minus w v a) ≡ v
carried_to w a v ha hv =
    ⊎_elim
    (λ m. ⊎_elim (λ p. omega arith) (λ p. absurd (omega arith)) (plus_cases w a (minus w v a) ha (minus_word w v a)))
    (λ m. ⊎_elim (λ p. absurd (omega arith)) (λ p. omega arith) (plus_cases w a (minus w v a) ha (minus_word w v a)))
    (minus_cases w v a hv ha)

-- two such rules that fail the same words, and some word
module _ (w a b c d : ℕ) (ha : a ≤ top w) (hb : b < top w) (hc : c ≤ top w) (hd : d ≤ top w)
    (same : (x : ℕ) → x ≤ top w → leb (plus w a x) b ≡ leb (plus w c x) d) where
  first_same : a ≡ c
  first_same = go (ℕ_discrete a 0)
    where
      last : d < plus w c (top w - a)
      last =
          let e : plus w a (top w - a) ≡ top w = ⊎_elim (λ p. omega arith) (λ p. absurd (omega arith)) (plus_cases w a (top w - a) ha (omega arith)) in
          leb-false (plus w c (top w - a)) d (sym (same (top w - a) (omega arith)) ∙ lt-leb (plus w a (top w - a)) b (omega arith))

      after : (x : ℕ) → x ≤ top w → plus w a x ≡ 0 → plus w c x ≤ d
      after x h e = leb-true (plus w c x) d (sym (same x h) ∙ le-leb (plus w a x) b (omega arith))

      go : Dec (a ≡ 0) → a ≡ c
      go (yes z) =
          let f = after 0 (omega arith) (⊎_elim (λ p. omega arith) (λ p. absurd (omega arith)) (plus_cases w a 0 ha (omega arith))) in
          ⊎_elim
          (λ p. ⊎_elim (λ q. omega (arith, last)) (λ q. absurd (omega (arith, last))) (plus_cases w c (top w - a) hc (omega arith)))
          (λ p. absurd (omega arith)) (plus_cases w c 0 hc (omega arith))
      go (no n) =
          let x : ℕ = suc (top w) - a in
          let f = after x (omega arith) (⊎_elim (λ p. absurd (omega arith)) (λ p. omega arith) (plus_cases w a x ha (omega arith))) in
          ⊎_elim
          (λ p. ⊎_elim (λ q. absurd (omega (arith, last))) (λ q. absurd (omega (arith, last))) (plus_cases w c (top w - a) hc (omega arith)))
          (λ p. ⊎_elim (λ q. omega (arith, last)) (λ q. absurd (omega (arith, last))) (plus_cases w c (top w - a) hc (omega arith)))
          (plus_cases w c x hc (omega arith))

  second_same : b ≡ d
  second_same = go (dec_lt b d) (dec_lt d b)
    where
      at : (v : ℕ) → v ≤ top w → leb v b ≡ leb v d
      at v h =
          ap (λ (k : ℕ). leb k b) (sym (carried_to w a v ha h)) ∙ same (minus w v a) (minus_word w v a)
          ∙ ap (λ (k : ℕ). leb k d) (ap (λ (k : ℕ). plus w k (minus w v a)) (sym first_same) ∙ carried_to w a v ha h)

      go : Dec (b < d) → Dec (d < b) → b ≡ d
      go (yes l) h = absurd (omega (arith, leb-true d b (at d hd ∙ le-leb d d (omega arith))))
      go (no l) (yes h) = absurd (omega (arith, leb-true b d (sym (at b (omega arith)) ∙ le-leb b b (omega arith))))
      go (no l) (no h) = omega arith

  pub one_rule : rule 3 0 a b ≡ rule 3 0 c d
  one_rule = ap₂ (rule 3 0) first_same second_same
