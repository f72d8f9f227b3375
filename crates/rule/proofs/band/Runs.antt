-- The ends of the run of failing words around a failing p. Going on from p on the failing side, the first word of the
-- other side is an end of the arc or the word next to one. Assumes nothing.
use Rattle.std.proofs.Common.{◌≡◌, ℕ, suc, ◌+◌, ◌-◌, ◌<◌, ◌≤◌, Bool, true, false, cond, not, ◌⊎◌, sym, refl, ap, ◌∙◌, inl, inr, ⊎_elim, arith}
use native.Mathlib.Decide.{dec_le, dec_lt, ℕ_discrete}
use borrow.Author.Tests.{not-false}
use Rattle.word.specs.Search.{climb, sink}
use Rattle.word.proofs.Search.{climb_to, sink_to}
use Rattle.rule.specs.declared.band.Band.{Band}
use Rattle.rule.specs.band.route.Band.{Laid, holds, within}
use Rattle.rule.proofs.band.Sides.{In, Out, is_in, is_out, in_of, out_of}

module _ (b : Band) where
  pub inside-holds : b.inside ≡ true → (x : ℕ) → holds b x ≡ not (within b.from b.to x)
  unfolding holds
  inside-holds e x = ap (λ (i : Bool). cond i (not (within b.from b.to x)) (within b.from b.to x)) e

  pub outside_holds : b.inside ≡ false → (x : ℕ) → holds b x ≡ within b.from b.to x
  unfolding holds
  outside_holds e x = ap (λ (i : Bool). cond i (not (within b.from b.to x)) (within b.from b.to x)) e

-- the words inside fail
module _ (b : Band) (e : b.inside ≡ true) where
  fails_in : (x : ℕ) → In b.from b.to x → holds b x ≡ false
  fails_in x i = inside-holds b e x ∙ ap not (is_in _ _ x i)

  holds_out : (x : ℕ) → Out b.from b.to x → holds b x ≡ true
  holds_out x o = inside-holds b e x ∙ ap not (is_out _ _ x o)

  in_where : (x : ℕ) → holds b x ≡ false → In b.from b.to x
  in_where x h = in_of _ _ x (not-false _ (sym (inside-holds b e x) ∙ h))

-- the words outside fail
module _ (b : Band) (e : b.inside ≡ false) where
  fails_out : (x : ℕ) → Out b.from b.to x → holds b x ≡ false
  fails_out x o = outside_holds b e x ∙ is_out _ _ x o

  holds_in : (x : ℕ) → In b.from b.to x → holds b x ≡ true
  holds_in x i = outside_holds b e x ∙ is_in _ _ x i

  out_where : (x : ℕ) → holds b x ≡ false → Out b.from b.to x
  out_where x h = out_of _ _ x (sym (outside_holds b e x) ∙ h)

module _ (b : Band) (t p : ℕ) (laid : Laid t b) (word : p ≤ t) (fails : holds b p ≡ false) where
  pub inside-to : b.inside ≡ true → p ≤ b.to → climb (holds b) (t - p) p ≡ b.to
  inside-to e h = climb_to (holds b) (t - p) p b.to h (omega (arith, laid.to_word)) within_run (past (ℕ_discrete b.to t))
    where
      within_run : (y : ℕ) → p < y → y ≤ b.to → holds b y ≡ false
      within_run y l r =
          fails_in b e y
          (⊎_elim (λ i. inl (omega arith, r)) (⊎_elim (λ i. inr (inl (i.0, r))) (λ i. inr (inl (i.0, r)))) (in_where b e p fails))

      past : Dec (b.to ≡ t) → (b.to ≡ p + (t - p)) ⊎ (holds b (suc b.to) ≡ true)
      past (yes d) = inl (omega arith)
      past (no d) = inr (holds_out b e (suc b.to) (beyond (dec_le b.from b.to)))
        where
          beyond : Dec (b.from ≤ b.to) → Out b.from b.to (suc b.to)
          beyond (yes k) = inr (inl (k, omega arith))
          beyond (no k) = inl (omega arith, omega (arith, laid.no_seam))

  pub inside_top : b.inside ≡ true → b.to < p → climb (holds b) (t - p) p ≡ t
  inside_top e h = climb_to (holds b) (t - p) p t word (omega arith) on (inl (omega arith))
    where
      on : (y : ℕ) → p < y → y ≤ t → holds b y ≡ false
      on y l r =
          fails_in b e y
          (⊎_elim (λ i. absurd (omega arith)) (⊎_elim (λ i. absurd (omega arith)) (λ i. inr (inr (i.0, omega arith)))) (in_where b e p fails))

  pub outside_to : b.inside ≡ false → p < b.from → climb (holds b) (t - p) p ≡ b.from - 1
  outside_to e h = climb_to (holds b) (t - p) p (b.from - 1) (omega arith) (omega (arith, laid.from_word)) on (inr next)
    where
      on : (y : ℕ) → p < y → y ≤ b.from - 1 → holds b y ≡ false
      on y l r =
          fails_out b e y
          (⊎_elim (λ o. inl (omega arith, omega arith)) (⊎_elim (λ o. absurd (omega arith)) (λ o. inr (inr (o.0, omega arith)))) (out_where b e p fails))

      at_from : Dec (b.from ≤ b.to) → In b.from b.to b.from
      at_from (yes k) = inl (omega arith, k)
      at_from (no k) = inr (inr (omega arith, omega arith))

      next : holds b (suc (b.from - 1)) ≡ true
      next =
          let s : suc (b.from - 1) ≡ b.from = omega arith in
          ap (holds b) s ∙ holds_in b e b.from (at_from (dec_le b.from b.to))

  pub outside_top : b.inside ≡ false → b.from ≤ p → climb (holds b) (t - p) p ≡ t
  outside_top e h = climb_to (holds b) (t - p) p t word (omega arith) on (inl (omega arith))
    where
      on : (y : ℕ) → p < y → y ≤ t → holds b y ≡ false
      on y l r =
          fails_out b e y
          (⊎_elim (λ o. absurd (omega arith)) (⊎_elim (λ o. inr (inl (o.0, omega arith))) (λ o. absurd (omega arith))) (out_where b e p fails))

  pub inside-from : b.inside ≡ true → b.from ≤ p → sink (holds b) p ≡ b.from
  inside-from e h = sink_to (holds b) p b.from h on (inr before)
    where
      on : (y : ℕ) → b.from ≤ y → y < p → holds b y ≡ false
      on y l r =
          fails_in b e y
          (⊎_elim (λ i. inl (l, omega arith)) (⊎_elim (λ i. absurd (omega arith)) (λ i. inr (inr (i.0, l)))) (in_where b e p fails))

      short : (y : ℕ) → suc y ≡ b.from → Dec (b.from ≤ b.to) → Out b.from b.to y
      short y s (yes k) = inr (inr (k, omega arith))
      short y s (no k) = inl (omega (arith, laid.no_seam), omega arith)

      before : (y : ℕ) → suc y ≡ b.from → holds b y ≡ true
      before y s = holds_out b e y (short y s (dec_le b.from b.to))

  pub inside_zero : b.inside ≡ true → p < b.from → sink (holds b) p ≡ 0
  inside_zero e h = sink_to (holds b) p 0 (omega arith) on (inl refl)
    where
      on : (y : ℕ) → 0 ≤ y → y < p → holds b y ≡ false
      on y l r =
          fails_in b e y
          (⊎_elim (λ i. absurd (omega arith)) (⊎_elim (λ i. inr (inl (i.0, omega arith))) (λ i. absurd (omega arith))) (in_where b e p fails))

  pub outside_from : b.inside ≡ false → b.to < p → sink (holds b) p ≡ b.to + 1
  outside_from e h = sink_to (holds b) p (b.to + 1) (omega arith) on (inr before)
    where
      on : (y : ℕ) → b.to + 1 ≤ y → y < p → holds b y ≡ false
      on y l r =
          fails_out b e y
          (⊎_elim (λ o. inl (omega arith, omega arith)) (⊎_elim (λ o. inr (inl (o.0, omega arith))) (λ o. absurd (omega arith))) (out_where b e p fails))

      at_to : Dec (b.from ≤ b.to) → In b.from b.to b.to
      at_to (yes k) = inl (k, omega arith)
      at_to (no k) = inr (inl (omega arith, omega arith))

      before : (y : ℕ) → suc y ≡ b.to + 1 → holds b y ≡ true
      before y s =
          let same : y ≡ b.to = omega arith in
          ap (holds b) same ∙ holds_in b e b.to (at_to (dec_le b.from b.to))

  pub outside_zero : b.inside ≡ false → p ≤ b.to → sink (holds b) p ≡ 0
  outside_zero e h = sink_to (holds b) p 0 (omega arith) on (inl refl)
    where
      on : (y : ℕ) → 0 ≤ y → y < p → holds b y ≡ false
      on y l r =
          fails_out b e y
          (⊎_elim (λ o. absurd (omega arith)) (⊎_elim (λ o. absurd (omega arith)) (λ o. inr (inr (o.0, omega arith)))) (out_where b e p fails))

-- where a run can end below the top word
abbrev pub edge : Band → ℕ
edge b = cond b.inside b.to (b.from - 1)

pub run_ends : (b : Band) (t x : ℕ) → Laid t b → x < t → holds b x ≡ false → holds b (suc x) ≡ true → x ≡ edge b
run_ends b t x laid below fails next = go b.inside refl
  where
    stays : climb (holds b) (t - x) x ≡ x
    stays = climb_to (holds b) (t - x) x x (omega arith) (omega arith) (λ y l h. absurd (omega arith)) (inr next)

    word : x ≤ t
    word = omega arith

    inner : b.inside ≡ true → Dec (x ≤ b.to) → x ≡ b.to
    inner e (yes h) = sym stays ∙ inside-to b t x laid word fails e h
    inner e (no h) = absurd (omega (arith, sym stays ∙ inside_top b t x laid word fails e (omega arith)))

    outer : b.inside ≡ false → Dec (x < b.from) → x ≡ b.from - 1
    outer e (yes h) = sym stays ∙ outside_to b t x laid word fails e h
    outer e (no h) = absurd (omega (arith, sym stays ∙ outside_top b t x laid word fails e (omega arith)))

    go : (i : Bool) → b.inside ≡ i → x ≡ edge b
    go true e = inner e (dec_le x b.to) ∙ sym (ap (λ (i : Bool). cond i b.to (b.from - 1)) e)
    go false e = outer e (dec_lt x b.from) ∙ sym (ap (λ (i : Bool). cond i b.to (b.from - 1)) e)
