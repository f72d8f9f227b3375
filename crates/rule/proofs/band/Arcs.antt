-- Each form is an arc. The distance of x from the arc's start, going up, is at most that of its end exactly when x is within
-- the arc; turning the wheel keeps distances; and each form is a plain bound on the word turned by some amount: by c1 or c2
-- for forms 1, 2, 3 and 8, by half for the signed forms 4 and 5. Assumes nothing.
use Rattle.std.proofs.Common.{◌≡◌, ℕ, suc, ◌+◌, ◌-◌, ◌%◌, ◌^◌, ◌<◌, ◌≤◌, Bool, true, false, cond, not, ◌&&◌, eqb, leb, ◌⊎◌, sym, refl, ap, ◌∙◌, ap₂, inl, inr, ⊎_elim, le_of_eq, arith, eq-eqb, ne_eqb, le-leb}
use native.Mathlib.Decide.{dec_le, ℕ_discrete}
use borrow.Author.Tests.{lt-leb}
use lib.Signed.{le_z}
use Rattle.word.specs.Word.{top, half, plus, minus, signed}
use Rattle.word.proofs.Signed.{order}
use Rattle.word.proofs.Sums.{minus_cases, minus_word, plus_cases, plus_word, redo, regroup, rest, turn}
use Rattle.word.proofs.Tests.{leb_same, ltb-leb}
use Rattle.word.proofs.Widths.{halves, half_pos}
use Rattle.rule.specs.Meaning.{settled}
use Rattle.rule.proofs.Settled.{never}
use Rattle.rule.specs.declared.band.Band.{Band}
use Rattle.rule.specs.band.route.Band.{holds, settled_band, span, wheel, within}
use Rattle.rule.proofs.band.Sides.{In, Out, is_in, is_out, sides, value}

-- d is how far it is up from a to y on a wheel with the top word t
abbrev Up : (t a y d : ℕ) → Type 0
Up t a y d = ((a ≤ y) × (d + a ≡ y)) ⊎ ((y < a) × (d + a ≡ y + suc t))

module _ (t a b x m n : ℕ) (ha : a ≤ t) (hb : b ≤ t) (hx : x ≤ t) where
  closer : In a b x → Up t a x m → Up t a b n → m ≤ n
  closer (inl i) (inl p) (inl q) = omega arith
  closer (inl i) (inl p) (inr q) = omega arith
  closer (inl i) (inr p) q = absurd (omega arith)
  closer (inr (inl i)) (inl p) q = absurd (omega arith)
  closer (inr (inl i)) (inr p) (inl q) = absurd (omega arith)
  closer (inr (inl i)) (inr p) (inr q) = omega arith
  closer (inr (inr i)) (inl p) (inl q) = absurd (omega arith)
  closer (inr (inr i)) (inl p) (inr q) = omega arith
  closer (inr (inr i)) (inr p) q = absurd (omega arith)

  further : Out a b x → Up t a x m → Up t a b n → n < m
  further (inl o) (inl p) q = absurd (omega arith)
  further (inl o) (inr p) (inl q) = absurd (omega arith)
  further (inl o) (inr p) (inr q) = omega arith
  further (inr (inl o)) (inl p) (inl q) = omega arith
  further (inr (inl o)) (inl p) (inr q) = absurd (omega arith)
  further (inr (inl o)) (inr p) q = absurd (omega arith)
  further (inr (inr o)) (inl p) q = absurd (omega arith)
  further (inr (inr o)) (inr p) (inl q) = omega arith
  further (inr (inr o)) (inr p) (inr q) = absurd (omega arith)

-- a machine word that comes to y with a added, wrapped, is how far it is up from a to y
up_by : (a y d : ℕ) → a < 2 ^ 64 → d < 2 ^ 64 → (d + a) % 2 ^ 64 ≡ y → Up (2 ^ 64 - 1) a y d
up_by a y d ha hd e = go (dec_le (2 ^ 64) (d + a))
  where
    go : Dec (2 ^ 64 ≤ d + a) → Up (2 ^ 64 - 1) a y d
    go (yes h) = inr (omega arith, omega arith)
    go (no h) = inl (omega arith, omega arith)

-- on the wheel of machine words any arc of a narrower wheel has the words that it has there
pub by_differences : (a b x m n : ℕ) → a < 2 ^ 64 → b < 2 ^ 64 → x < 2 ^ 64 → m < 2 ^ 64 → n < 2 ^ 64
    → (m + a) % 2 ^ 64 ≡ x → (n + a) % 2 ^ 64 ≡ b → leb m n ≡ within a b x
by_differences a b x m n ha hb hx hm hn e f =
    let p = up_by a x m ha hm e in
    let q = up_by a b n ha hn f in
    ⊎_elim (λ i. le-leb _ _ (closer (2 ^ 64 - 1) a b x m n (omega arith) (omega arith) (omega arith) i p q) ∙ sym (is_in a b x i))
    (λ o. lt-leb _ _ (further (2 ^ 64 - 1) a b x m n (omega arith) (omega arith) (omega arith) o p q) ∙ sym (is_out a b x o)) (sides a b x)

module _ (w : ℕ) where
  abbrev near : (a b x : ℕ) → Bool
  near a b x = leb (minus w x a) (minus w b a)

  -- a word is within an arc by its distance from the start
  pub distance : (a b x : ℕ) → a ≤ top w → b ≤ top w → x ≤ top w → within a b x ≡ near a b x
  distance a b x ha hb hx =
      let p = minus_cases w x a hx ha in
      let q = minus_cases w b a hb ha in
      ⊎_elim (λ i. is_in a b x i ∙ sym (le-leb _ _ (closer (top w) a b x _ _ ha hb hx i p q)))
      (λ o. is_out a b x o ∙ sym (lt-leb _ _ (further (top w) a b x _ _ ha hb hx o p q))) (sides a b x)

  -- distances from 0 and to the top word are plain
  from_zero : (y : ℕ) → y ≤ top w → minus w y 0 ≡ y
  from_zero y h = ⊎_elim (λ c. omega arith) (λ c. absurd (omega arith)) (minus_cases w y 0 h (omega arith))

  up_to : (b y : ℕ) → b ≤ top w → y ≤ top w → leb y b ≡ near 0 b y
  up_to b y hb hy = sym (ap₂ leb (from_zero y hy) (from_zero b hb))

  to_top : (a : ℕ) → a ≤ top w → minus w (top w) a + a ≡ top w
  to_top a h = ⊎_elim (λ c. c.1) (λ c. absurd (omega arith)) (minus_cases w (top w) a (omega arith) h)

  from_on : (a y : ℕ) → a ≤ top w → y ≤ top w → leb a y ≡ near a (top w) y
  from_on a y ha hy =
      leb_same a y (minus w y a) (minus w (top w) a)
      (λ h. ⊎_elim (λ c. omega (arith, to_top a ha)) (λ c. absurd (omega arith)) (minus_cases w y a hy ha))
      (λ h. ⊎_elim (λ c. c.0) (λ c. absurd (omega (arith, to_top a ha))) (minus_cases w y a hy ha))

  -- the wheel turned by c, down and up
  turned : (a b c x : ℕ) → a ≤ top w → c ≤ top w → near (minus w a c) (minus w b c) (minus w x c) ≡ near a b x
  turned a b c x ha hc = ap₂ leb (turn w x a c ha hc) (turn w b a c ha hc)

  shifted : (a b c x : ℕ) → a ≤ top w → c ≤ top w → x ≤ top w → near (minus w a c) (minus w b c) x ≡ near a b (plus w c x)
  shifted a b c x ha hc hx =
      ap (near (minus w a c) (minus w b c)) (sym (redo w c x hc hx)) ∙ turned a b c (plus w c x) ha hc

module _ (w : ℕ) (width : 1 ≤ w) (c1 c2 x : ℕ) (h1 : c1 ≤ top w) (h2 : c2 ≤ top w) (hx : x ≤ top w) where
  zero_word : 0 ≤ top w
  zero_word = omega arith

  half_word : half w ≤ top w
  half_word = omega (arith, halves w width, half_pos w)

  on_arc : {a b : ℕ} → a ≤ top w → b ≤ top w → near w a b x ≡ holds (span a b) x
  unfolding holds
  on_arc ha hb = sym (distance w _ _ x ha hb hx)

  -- adding a difference to a word leaves it no smaller exactly when the sum does not pass the top word
  pub form1 : leb (plus w c1 x) (plus w c2 x) ≡ holds (span (minus w 0 c1) (minus w (top w) c2)) x
  form1 =
      ap (leb (plus w c1 x)) (sym (regroup w c1 c2 x h1))
      ∙ grows (plus w c1 x) (minus w c2 c1) (plus_word w c1 x) (minus_word w c2 c1)
      ∙ up_to w (top w - minus w c2 c1) (plus w c1 x) (omega arith) (plus_word w c1 x)
      ∙ sym (shifted w 0 (top w - minus w c2 c1) c1 x zero_word h1 hx)
      ∙ ap (λ (b : ℕ). near w (minus w 0 c1) b x) (rest w c1 c2 h1 h2)
      ∙ on_arc (minus_word w _ _) (minus_word w _ _)
    where
      grows : (y d : ℕ) → y ≤ top w → d ≤ top w → leb y (plus w y d) ≡ leb y (top w - d)
      grows y d hy hd =
          leb_same y (plus w y d) y (top w - d)
          (λ h. ⊎_elim (λ c. omega arith) (λ c. absurd (omega arith)) (plus_cases w y d hy hd))
          (λ h. ⊎_elim (λ c. omega arith) (λ c. absurd (omega arith)) (plus_cases w y d hy hd))

  pub form2 : leb c1 (plus w c2 x) ≡ holds (span (minus w c1 c2) (minus w (top w) c2)) x
  form2 =
      from_on w c1 (plus w c2 x) h1 (plus_word w c2 x)
      ∙ sym (shifted w c1 (top w) c2 x h1 h2 hx)
      ∙ on_arc (minus_word w _ _) (minus_word w _ _)

  pub form3 : leb (plus w c1 x) c2 ≡ holds (span (minus w 0 c1) (minus w c2 c1)) x
  form3 =
      up_to w c2 (plus w c1 x) h2 (plus_word w c1 x)
      ∙ sym (shifted w 0 c2 c1 x zero_word h1 hx)
      ∙ on_arc (minus_word w _ _) (minus_word w _ _)

  pub form4 : le_z (signed w x) (signed w c1) ≡ holds (span (half w) c1) x
  form4 =
      order w width x c1 hx h1
      ∙ up_to w (plus w (half w) c1) (plus w (half w) x) (plus_word w (half w) c1) (plus_word w (half w) x)
      ∙ sym (shifted w 0 (plus w (half w) c1) (half w) x zero_word half_word hx)
      ∙ ap₂ (λ (a b : ℕ). near w a b x) other_half (redo w (half w) c1 half_word h1)
      ∙ on_arc half_word h1
    where
      other_half : minus w 0 (half w) ≡ half w
      other_half =
          ⊎_elim (λ c. absurd (omega (arith, half_pos w))) (λ c. omega (arith, halves w width))
          (minus_cases w 0 (half w) zero_word half_word)

  pub form5 : le_z (signed w c1) (signed w x) ≡ holds (span c1 (half w - 1)) x
  form5 =
      order w width c1 x h1 hx
      ∙ from_on w (plus w (half w) c1) (plus w (half w) x) (plus_word w (half w) c1) (plus_word w (half w) x)
      ∙ sym (shifted w (plus w (half w) c1) (top w) (half w) x (plus_word w (half w) c1) half_word hx)
      ∙ ap₂ (λ (a b : ℕ). near w a b x) (redo w (half w) c1 half_word h1) last_low
      ∙ on_arc h1 (omega (arith, half_word))
    where
      last_low : minus w (top w) (half w) ≡ half w - 1
      last_low = omega (arith, to_top w (half w) half_word, halves w width)

  pub form6 : eqb x c1 ≡ holds (span c1 c1) x
  form6 = go (ℕ_discrete x c1) ∙ on_arc h1 h1
    where
      none : minus w c1 c1 ≡ 0
      none = ⊎_elim (λ c. omega arith) (λ c. absurd (omega arith)) (minus_cases w c1 c1 h1 h1)

      go : Dec (x ≡ c1) → eqb x c1 ≡ near w c1 c1 x
      go (yes e) = eq-eqb x c1 e ∙ sym (le-leb (minus w x c1) (minus w c1 c1) (le_of_eq (ap (λ (y : ℕ). minus w y c1) e)))
      go (no e) =
          ne_eqb x c1 e
          ∙ sym
          (lt-leb (minus w x c1) (minus w c1 c1)
          (⊎_elim (λ c. omega (arith, none)) (λ c. omega (arith, none)) (minus_cases w x c1 hx h1)))

  no_words : holds (wheel (top w) true) x ≡ false
  unfolding holds
  no_words = ap not (is_in 0 (top w) x (inl (omega arith, hx)))

  pub form8 : settled w c1 c2 x ≡ holds (settled_band w c1 c2) x
  unfolding settled_band
  form8 = go (dec_le (half w) c2)
    where
      since : ℕ
      since = minus w x c1

      arc : Band
      arc = span (plus w c1 c2) (plus w c1 (half w - 1))

      -- c1 turned to 0, the words from c2 to half - 1
      some : c2 < half w → settled w c1 c2 x ≡ holds arc x
      some h =
          let last : half w - 1 ≤ top w = omega (arith, half_word) in
          ap (λ (t : Bool). leb c2 since && t) (ltb-leb since (half w) (half_pos w))
          ∙ sym (value c2 (half w - 1) since true _ _ (le-leb c2 (half w - 1) (omega arith)) refl refl)
          ∙ distance w c2 (half w - 1) since h2 last (minus_word w x c1)
          ∙ ap₂ (λ (a b : ℕ). near w a b since) (sym (redo w c1 c2 h1 h2)) (sym (redo w c1 (half w - 1) h1 last))
          ∙ turned w (plus w c1 c2) (plus w c1 (half w - 1)) c1 x (plus_word w c1 c2) h1
          ∙ on_arc (plus_word w _ _) (plus_word w _ _)

      picked : (t : Bool) → leb (half w) c2 ≡ t → holds (cond t (wheel (top w) true) arc) x ≡ holds (settled_band w c1 c2) x
      picked t e = ap (λ (t : Bool). holds (cond t (wheel (top w) true) arc) x) (sym e)

      go : Dec (half w ≤ c2) → settled w c1 c2 x ≡ holds (settled_band w c1 c2) x
      go (yes h) = never w c1 c2 x h ∙ sym no_words ∙ picked true (le-leb (half w) c2 h)
      go (no h) = some (omega arith) ∙ picked false (lt-leb (half w) c2 (omega arith))
