-- Sums and differences on the wheel of 2^w words. Each is the plain one up to whole turns of the wheel, and two words
-- that differ by whole turns are the same word, so an equation of words is an equation of plain sums. Assumes nothing.
use Rattle.std.proofs.Common.{◌≡◌, ℕ, suc, ◌+◌, ◌-◌, ◌*◌, ◌/◌, ◌%◌, ◌^◌, ◌<◌, ◌≤◌, ◌⊎◌, sym, ap, ◌∙◌, inl, inr, mod-lt, mod-eq_of_lt, add-mul, arith, pow_pos}
use native.Mathlib.Nat.{add-mod_right, add-mul-mod_self_right, mod-add-div', mod-eq-sub-mod}
use native.Mathlib.Decide.{dec_le}
use Rattle.word.specs.Word.{top, plus, minus}
use Rattle.word.proofs.Widths.{top-suc}

module _ (w : ℕ) where
  below : {a : ℕ} → a ≤ top w → a < 2 ^ w
  below h = omega (arith, top-suc w)

  cut_word : (n : ℕ) → n % 2 ^ w ≤ top w
  cut_word n = omega (arith, top-suc w, mod-lt n (pow_pos w))

  pub plus_word : (a b : ℕ) → plus w a b ≤ top w
  unfolding plus
  plus_word a b = cut_word (a + b)

  pub minus_word : (a b : ℕ) → minus w a b ≤ top w
  unfolding minus
  minus_word a b = cut_word (a + (2 ^ w - b % 2 ^ w))

  pub plus_cases : (a b : ℕ) → a ≤ top w → b ≤ top w
      → ((a + b ≤ top w) × (plus w a b ≡ a + b)) ⊎ ((top w < a + b) × (plus w a b + suc (top w) ≡ a + b))
  unfolding plus
  plus_cases a b ha hb = go (dec_le (a + b) (top w))
    where
      go : Dec (a + b ≤ top w)
          → ((a + b ≤ top w) × (plus w a b ≡ a + b)) ⊎ ((top w < a + b) × (plus w a b + suc (top w) ≡ a + b))
      go (yes h) = inl (h, mod-eq_of_lt (below h))
      go (no h) =
          let less : a + b - 2 ^ w < 2 ^ w = omega (arith, top-suc w) in
          let m : (a + b) % 2 ^ w ≡ a + b - 2 ^ w = mod-eq-sub-mod (omega (arith, top-suc w)) ∙ mod-eq_of_lt less in
          inr (omega (arith, top-suc w), omega (arith, top-suc w))

  pub minus_cases : (a b : ℕ) → a ≤ top w → b ≤ top w
      → ((b ≤ a) × (minus w a b + b ≡ a)) ⊎ ((a < b) × (minus w a b + b ≡ a + suc (top w)))
  unfolding minus
  minus_cases a b ha hb = go (dec_le b a)
    where
      m : b % 2 ^ w ≡ b
      m = mod-eq_of_lt (below hb)

      plain : minus w a b ≡ (a + (2 ^ w - b)) % 2 ^ w
      plain = ap (λ (n : ℕ). (a + (2 ^ w - n)) % 2 ^ w) m

      go : Dec (b ≤ a) → ((b ≤ a) × (minus w a b + b ≡ a)) ⊎ ((a < b) × (minus w a b + b ≡ a + suc (top w)))
      go (yes h) =
          let turn : a + (2 ^ w - b) ≡ (a - b) + 2 ^ w = omega (arith, top-suc w) in
          let d : minus w a b ≡ a - b =
          plain ∙ ap (λ (n : ℕ). n % 2 ^ w) turn ∙ add-mod_right (a - b) (2 ^ w) ∙ mod-eq_of_lt (omega (arith, top-suc w)) in
          inl (h, omega (arith, top-suc w))
      go (no h) =
          let d : minus w a b ≡ a + (2 ^ w - b) = plain ∙ mod-eq_of_lt (omega (arith, top-suc w)) in
          inr (omega (arith, top-suc w), omega (arith, top-suc w))

  -- whole turns
  same : {u v : ℕ} → u ≤ top w → v ≤ top w → (k l : ℕ) → u + k * 2 ^ w ≡ v + l * 2 ^ w → u ≡ v
  same {u} {v} hu hv k l e = sym (cut hu k) ∙ ap (λ (n : ℕ). n % 2 ^ w) e ∙ cut hv l
    where
      cut : {n : ℕ} → n ≤ top w → (k : ℕ) → (n + k * 2 ^ w) % 2 ^ w ≡ n
      cut {n} h k = add-mul-mod_self_right n k (2 ^ w) ∙ mod-eq_of_lt (below h)

  plus_turns : (a b : ℕ) → (k : ℕ) × (plus w a b + k * 2 ^ w ≡ a + b)
  unfolding plus
  plus_turns a b = ((a + b) / 2 ^ w, mod-add-div' (a + b) (2 ^ w))

  minus_turns : (a b : ℕ) → b ≤ top w → (k : ℕ) × (minus w a b + b + k * 2 ^ w ≡ a + 2 ^ w)
  unfolding minus
  minus_turns a b h =
      let n : ℕ = a + (2 ^ w - b % 2 ^ w) in
      (n / 2 ^ w, omega (arith, mod-add-div' n (2 ^ w), mod-eq_of_lt (below h), below h))

  -- a difference undoes a sum
  pub redo : (c x : ℕ) → c ≤ top w → x ≤ top w → minus w (plus w c x) c ≡ x
  redo c x hc hx =
      let (k, p) = plus_turns c x in
      let (l, m) = minus_turns (plus w c x) c hc in
      same (minus_word (plus w c x) c) hx (k + l) 1 (omega (arith, p, m, add-mul k l (2 ^ w)))

  -- turning two words by the same amount keeps their distance
  pub turn : (x a c : ℕ) → a ≤ top w → c ≤ top w → minus w (minus w x c) (minus w a c) ≡ minus w x a
  turn x a c ha hc =
      let (i, p) = minus_turns x c hc in
      let (j, q) = minus_turns a c hc in
      let (k, r) = minus_turns (minus w x c) (minus w a c) (minus_word a c) in
      let (l, s) = minus_turns x a ha in
      same (minus_word _ _) (minus_word x a) (i + k) (j + l) (omega (arith, p, q, r, s, add-mul i k (2 ^ w), add-mul j l (2 ^ w)))

  -- the difference of two amounts, added to a word turned by the one, is the word turned by the other
  pub regroup : (a b x : ℕ) → a ≤ top w → plus w (plus w a x) (minus w b a) ≡ plus w b x
  regroup a b x ha =
      let (i, p) = plus_turns a x in
      let (j, q) = minus_turns b a ha in
      let (k, r) = plus_turns (plus w a x) (minus w b a) in
      let (l, s) = plus_turns b x in
      same (plus_word _ _) (plus_word b x) (i + j + k) (l + 1)
      (omega (arith, p, q, r, s, add-mul (i + j) k (2 ^ w), add-mul i j (2 ^ w), add-mul l 1 (2 ^ w)))

  -- what a difference leaves below the top word, turned back
  pub rest : (a b : ℕ) → a ≤ top w → b ≤ top w → minus w (top w - minus w b a) a ≡ minus w (top w) b
  rest a b ha hb =
      let d = minus_word b a in
      let (i, p) = minus_turns b a ha in
      let (j, q) = minus_turns (top w - minus w b a) a ha in
      let (k, r) = minus_turns (top w) b hb in
      same (minus_word _ _) (minus_word (top w) b) (j + 1) (i + k)
      (omega (arith, p, q, r, add-mul j 1 (2 ^ w), add-mul i k (2 ^ w)))
