-- The band of furthest reach, lowest number on a tie, is one only, whatever order the bands are looked at in. The search over all bands
-- finds it, since it takes a later number only where it reaches further. Assumes nothing.
use mathlib.Core.Path.{◌≡◌, refl, sym, ap, ap₂, ◌∙◌, subst}
use mathlib.Core.Bool.{Bool, true, false, cond, false≢true}
use mathlib.Core.Logic.{◌⊎◌, inl, inr, ⊎_elim}
use mathlib.Core.List.{List}
use Prim.Native.Nat.{ℕ, zero, suc, ◌-◌, ◌≤◌, ◌<◌}
use native.Mathlib.Decide.{dec_lt}
use native.Mathlib.Omega.{arith}
use borrow.Author.Tests.{le-ltb, ltb-false, ltb-true}
use lib.Dec.{ltb}
use lib.ListN.{length, take}
use Rattle.word.specs.Search.{climb}
use Rattle.rule.specs.declared.band.Band.{Band}
use Rattle.rule.specs.band.route.Band.{holds}
use Rattle.search.specs.rows.route.Bands.{blank_band}
use Rattle.chain.specs.declared.Far.{Far}
use Rattle.chain.specs.declared.Far.TheVariants.{To, Nowhere}
use Rattle.chain.specs.Links.{further}
use Rattle.chain.specs.route.OnBands.{further_band, furthest_band, furthest_band_of}
use Rattle.chain.proofs.OnBands.{far_kept, far_new, furthest_suc}
use Rattle.search.specs.order.route.Order.{band_at}
use Rattle.chain.specs.due.route.Due.{better}

-- to q with number i is at least as good as to r with number j
abbrev pub AsGood : (q i r j : ℕ) → Type 0
AsGood q i r j = (r < q) ⊎ ((r ≡ q) × (i ≤ j))

as_good_trans : (q i r j s k : ℕ) → AsGood q i r j → AsGood r j s k → AsGood q i s k
as_good_trans q i r j s k a b =
    ⊎_elim (λ x. ⊎_elim (λ y. inl (omega arith)) (λ y. inl (omega arith)) b)
    (λ x. ⊎_elim (λ y. inl (omega arith)) (λ y. inr (omega arith, omega arith)) b)
    a

module _ (t p : ℕ) (bs : List Band) where
  abbrev pub reach_of : ℕ → ℕ
  reach_of i = climb (holds (band_at bs i)) (t - p) p

  abbrev pub Fails : ℕ → Type 0
  Fails i = holds (band_at bs i) p ≡ false

  -- of the bands with a number in S, number i fails p and reaches furthest, to q, the lowest on a tie
  pub record Best (S : ℕ → Type 0) (q i : ℕ) : Type 0 where
    pub mine : S i
    pub fails : Fails i
    pub reach : reach_of i ≡ q
    pub most : (j : ℕ) → S j → Fails j → AsGood q i (reach_of j) j

  abbrev pub Held : (ℕ → Type 0) → Far → Type 0
  Held S (To q i) = Best S q i
  Held S Nowhere = (j : ℕ) → S j → Fails j → ⊥

  pub unique : (S : ℕ → Type 0) (f g : Far) → Held S f → Held S g → f ≡ g
  unique S (To q i) (To r j) a b =
      let there = a.most j b.mine b.fails in
      let back = b.most i a.mine a.fails in
      let e = a.reach in
      let d = b.reach in
      ⊎_elim (λ x. ⊎_elim (λ y. absurd (omega arith)) (λ y. absurd (omega arith)) back)
      (λ x. ⊎_elim (λ y. absurd (omega arith)) (λ y. let same : q ≡ r = omega arith in let one : i ≡ j = omega arith in ap₂ To same one) back)
      there
  unique S (To q i) Nowhere a b = absurd (b i a.mine a.fails)
  unique S Nowhere (To r j) a b = absurd (a j b.mine b.fails)
  unique S Nowhere Nowhere a b = refl

  -- only the bands that fail p count
  pub among : (S T : ℕ → Type 0) (f : Far) → Held S f → ((j : ℕ) → S j → T j) → ((j : ℕ) → T j → Fails j → S j) → Held T f
  among S T (To q i) a to back =
      record { mine = to i a.mine; fails = a.fails; reach = a.reach; most = λ j s e. a.most j (back j s e) e }
  among S T Nowhere a to back = λ j s e. a j (back j s e) e

  -- one band more, number m
  module _ (S : ℕ → Type 0) (m : ℕ) where
    abbrev pub More : ℕ → Type 0
    More j = S j ⊎ (j ≡ m)

    pub kept : (f : Far) → holds (band_at bs m) p ≡ true → Held S f → Held More f
    kept (To q i) h a =
        record {
          mine = inl a.mine;
          fails = a.fails;
          reach = a.reach;
          most = λ j s e. ⊎_elim (λ x. a.most j x e) (λ x. absurd (false≢true (sym e ∙ ap (λ (k : ℕ). holds (band_at bs k) p) x ∙ h))) s;
        }
    kept Nowhere h a = λ j s e. ⊎_elim (λ x. a j x e) (λ x. false≢true (sym e ∙ ap (λ (k : ℕ). holds (band_at bs k) p) x ∙ h)) s

    pub taken : (f : Far) → Fails m → Held S f → Held More (better f (reach_of m) m)
    unfolding better
    taken Nowhere h a =
        record {
          mine = inr refl;
          fails = h;
          reach = refl;
          most = λ j s e. ⊎_elim (λ x. absurd (a j x e)) (λ x. inr (ap reach_of x, omega arith)) s;
        }
    taken (To q i) h a = go (ltb q (reach_of m)) refl (ltb (reach_of m) q) refl (ltb m i) refl
      where
        new : AsGood (reach_of m) m q i → Best More (reach_of m) m
        new g =
            record {
              mine = inr refl;
              fails = h;
              reach = refl;
              most = λ j s e. ⊎_elim (λ x. as_good_trans (reach_of m) m q i (reach_of j) j g (a.most j x e)) (λ x. inr (ap reach_of x, omega arith)) s;
            }

        old : AsGood q i (reach_of m) m → Best More q i
        old g =
            record {
              mine = inl a.mine;
              fails = a.fails;
              reach = a.reach;
              most = λ j s e. ⊎_elim (λ x. a.most j x e) (λ x. subst (λ (k : ℕ). AsGood q i (reach_of k) k) (sym x) g) s;
            }

        go : (u : Bool) → ltb q (reach_of m) ≡ u → (v : Bool) → ltb (reach_of m) q ≡ v → (w : Bool) → ltb m i ≡ w
            → Held More (cond u (To (reach_of m) m) (cond v (To q i) (cond w (To (reach_of m) m) (To q i))))
        go true d v e w f = new (inl (ltb-true q (reach_of m) d))
        go false d true e w f = old (inl (ltb-true (reach_of m) q e))
        go false d false e true f = new (inr (omega (arith, ltb-false q (reach_of m) d, ltb-false (reach_of m) q e), omega (arith, ltb-true m i f)))
        go false d false e false f = old (inr (omega (arith, ltb-false q (reach_of m) d, ltb-false (reach_of m) q e), ltb-false m i f))

  -- where all numbers so far are lower, as good is not enough
  abbrev Below : ℕ → Far → Type 0
  Below m (To q i) = i < m
  Below m Nowhere = Unit {0}

  below : (m : ℕ) (f : Far) → Held (λ (j : ℕ). j < m) f → Below m f
  below m (To q i) a = a.mine
  below m Nowhere a = tt

  same : (f : Far) (q m : ℕ) → Below m f → better f q m ≡ further f q m
  unfolding better further
  same Nowhere q m b = refl
  same (To r i) q m b =
      let later : ltb m i ≡ false = le-ltb m i (omega arith) in
      rw later (elim (ltb q r) as (λ (v : Bool). cond (ltb r q) (To q m) (cond v (To r i) (To r i)) ≡ cond (ltb r q) (To q m) (To r i)) [ true ↦ refl | false ↦ refl ])

  one_more : (n : ℕ) (f : Far) → Held (λ (j : ℕ). j < n) f → Held (λ (j : ℕ). j < suc n) (further_band t p f n (band_at bs n))
  one_more n f a = go (holds (band_at bs n) p) refl
    where
      back : (j : ℕ) → Dec (j < n) → j < suc n → (j < n) ⊎ (j ≡ n)
      back j (yes d) h = inl d
      back j (no d) h = inr (omega arith)

      wider : (g : Far) → Held (More (λ (j : ℕ). j < n) n) g → Held (λ (j : ℕ). j < suc n) g
      wider g b = among _ _ g b (λ j s. ⊎_elim (λ x. omega arith) (λ x. omega arith) s) (λ j h e. back j (dec_lt j n) h)

      go : (s : Bool) → holds (band_at bs n) p ≡ s → Held (λ (j : ℕ). j < suc n) (further_band t p f n (band_at bs n))
      go true e = subst (Held (λ (j : ℕ). j < suc n)) (sym (far_kept t p f n (band_at bs n) e)) (wider f (kept _ n f e a))
      go false e =
          subst (Held (λ (j : ℕ). j < suc n)) (same f (reach_of n) n (below n f a) ∙ sym (far_new t p f n (band_at bs n) e))
          (wider (better f (reach_of n) n) (taken _ n f e a))

  pub furthest_best : (n : ℕ) → n ≤ length bs → Held (λ (j : ℕ). j < n) (furthest_band (take n bs) t p)
  unfolding furthest_band furthest_band_of
  furthest_best zero h = λ j s e. omega arith
  furthest_best (suc n) h =
      subst (Held (λ (j : ℕ). j < suc n)) (sym (furthest_suc t p bs n blank_band h)) (one_more n (furthest_band (take n bs) t p) (furthest_best n (omega arith)))
