-- The rule of furthest reach, lowest number on a tie. Rule by rule, the best so far fails furthest of the rules passed,
-- and no lower number fails as far: a rule's reach is as far as it fails, and a later rule is taken only where it
-- reaches further. Assumes nothing.
use mathlib.Core.Path.{◌≡◌, refl, sym, ◌∙◌, subst}
use mathlib.Core.Bool.{Bool, true, false, cond, false≢true}
use mathlib.Core.Logic.{◌⊎◌, inl, inr, ⊎_elim}
use mathlib.Core.List.{List, [], ◌∷◌}
use Prim.Native.Nat.{ℕ, suc, ◌+◌, ◌-◌, ◌≤◌, ◌<◌}
use native.Mathlib.Nat.{le_refl}
use native.Mathlib.Decide.{dec_lt}
use native.Mathlib.Omega.{arith}
use borrow.Author.Tests.{eqb-false, ltb-false, ltb-true, ne_eqb, not-true}
use lib.Dec.{ltb}
use lib.ListN.{length, drop}
use lib.Seq.{drop-cons}
use Rattle.word.specs.Word.{top}
use Rattle.word.proofs.Climb.{Climbed, all_miss, climb_is, no_further}
use Rattle.word.proofs.Tests.{both_pass}
use Rattle.rule.specs.declared.Rule.{Rule}
use Rattle.rule.specs.Meaning.{meets, reach, rule}
use Rattle.chain.specs.declared.Far.{Far}
use Rattle.chain.specs.declared.Far.TheVariants.{To, Nowhere}
use Rattle.chain.specs.Chain.{Fails}
use Rattle.chain.specs.Links.{blocks, further, furthest, furthest_of, nth}

-- of the rules below number n, rule i fails furthest, to q, and no lower number fails as far
pub record Best (w : ℕ) (rs : List Rule) (p n q i : ℕ) : Type 0 where
  pub mine : i < n
  pub fails : Fails w rs i p q
  pub most : (j q' : ℕ) → j < n → Fails w rs j p q' → q' ≤ q
  pub least : (j : ℕ) → j < n → Fails w rs j p q → i ≤ j

abbrev pub Held : ℕ → List Rule → ℕ → ℕ → Far → Type 0
Held w rs p n (To q i) = Best w rs p n q i
Held w rs p n Nowhere = (j q : ℕ) → j < n → Fails w rs j p q → ⊥

-- one more rule
abbrev pub added : ℕ → Rule → (p i : ℕ) → Far → Far
added w r p i best = elim (blocks w r p) [ true ↦ further best (reach w r p) i | false ↦ best ]

module _ (w : ℕ) (rs : List Rule) (p : ℕ) (word : p ≤ top w) where
  reached : (r : Rule) → Climbed (meets w r) p (top w) (reach w r p)
  unfolding reach
  reached r = climb_is (meets w r) (top w - p) p (top w) (omega arith)

  module _ (n : ℕ) (there : n < length rs) where
    abbrev R : ℕ
    R = reach w (nth rs n) p

    fails_to : blocks w (nth rs n) p ≡ true → Fails w rs n p R
    unfolding blocks
    fails_to e =
        let (d, m) = both_pass _ _ e in
        record {
          plain = record { there = there; other = eqb-false _ _ (not-true _ d) };
          order = (reached (nth rs n)).order;
          word = (reached (nth rs n)).bound;
          each = all_miss (meets w (nth rs n)) (reached (nth rs n)) (not-true _ m);
        }

    -- a rule that fails p is passed already, or is this one
    passed : (j q : ℕ) → j < suc n → Fails w rs j p q → (j < n) ⊎ ((j ≡ n) × (blocks w (nth rs n) p ≡ true) × (q ≤ R))
    unfolding blocks
    passed j q h f = go (dec_lt j n)
      where
        this : j ≡ n → Fails w rs n p q → (j < n) ⊎ ((j ≡ n) × (blocks w (nth rs n) p ≡ true) × (q ≤ R))
        this e f =
            inr (
              e,
              rw (ne_eqb (nth rs n).form 7 f.plain.other, f.each p (le_refl p) f.order),
              no_further (meets w (nth rs n)) (reached (nth rs n)) q f.word (λ y a. f.each y (omega arith)),
            )

        go : Dec (j < n) → (j < n) ⊎ ((j ≡ n) × (blocks w (nth rs n) p ≡ true) × (q ≤ R))
        go (yes d) = inl d
        go (no d) = let e : j ≡ n = omega arith in this e (subst (λ (i : ℕ). Fails w rs i p q) e f)

    keep : (best : Far) → (blocks w (nth rs n) p ≡ true → ⊥) → Held w rs p n best → Held w rs p (suc n) best
    keep (To q i) none b =
        record {
          mine = omega (arith, b.mine);
          fails = b.fails;
          most = λ j q' h f. ⊎_elim (λ d. b.most j q' d f) (λ d. absurd (none d.1)) (passed j q' h f);
          least = λ j h f. ⊎_elim (λ d. b.least j d f) (λ d. absurd (none d.1)) (passed j q h f);
        }
    keep Nowhere none b = λ j q h f. ⊎_elim (λ d. b j q d f) (λ d. none d.1) (passed j q h f)

    take : (best : Far) → blocks w (nth rs n) p ≡ true → Held w rs p n best → Held w rs p (suc n) (further best R n)
    unfolding further
    take (To q i) t b = go (ltb q R) refl
      where
        go : (s : Bool) → ltb q R ≡ s → Held w rs p (suc n) (cond s (To R n) (To q i))
        go true e =
            record {
              mine = omega arith;
              fails = fails_to t;
              most = λ j q' h f. ⊎_elim (λ d. omega (arith, b.most j q' d f, ltb-true q R e)) (λ d. d.2) (passed j q' h f);
              least = λ j h f. ⊎_elim (λ d. absurd (omega (arith, b.most j R d f, ltb-true q R e))) (λ d. omega arith) (passed j R h f);
            }
        go false e =
            record {
              mine = omega (arith, b.mine);
              fails = b.fails;
              most = λ j q' h f. ⊎_elim (λ d. b.most j q' d f) (λ d. omega (arith, ltb-false q R e)) (passed j q' h f);
              least = λ j h f. ⊎_elim (λ d. b.least j d f) (λ d. omega (arith, b.mine)) (passed j q h f);
            }
    take Nowhere t b =
        record {
          mine = omega arith;
          fails = fails_to t;
          most = λ j q h f. ⊎_elim (λ d. absurd (b j q d f)) (λ d. d.2) (passed j q h f);
          least = λ j h f. ⊎_elim (λ d. absurd (b j R d f)) (λ d. omega arith) (passed j R h f);
        }

    one_more : (best : Far) → Held w rs p n best → Held w rs p (suc n) (added w (nth rs n) p n best)
    one_more best b = go (blocks w (nth rs n) p) refl
      where
        go : (s : Bool) → blocks w (nth rs n) p ≡ s → Held w rs p (suc n) (elim s as (λ (t : Bool). Far) [ true ↦ further best R n | false ↦ best ])
        go true e = take best e b
        go false e = keep best (λ t. false≢true (sym e ∙ t)) b

  rest_held : (rest : List Rule) (n : ℕ) (best : Far) → drop n rs ≡ rest → n + length rest ≡ length rs → Held w rs p n best
      → Held w rs p (length rs) (furthest_of w best n rest p)
  unfolding furthest_of
  rest_held [] n best e l b = let s : length rs ≡ n = omega arith in rw s b
  rest_held (r ∷ rest) n best e l b =
      let there : n < length rs = omega arith in
      let d = drop-cons rs n (rule 0 0 0 0) there in
      let head : nth rs n ≡ r = cc in
      let tail : drop (suc n) rs ≡ rest = cc in
      rest_held rest (suc n) (added w r p n best) tail (omega arith)
      (subst (λ (s : Rule). Held w rs p (suc n) (added w s p n best)) head (one_more n there best b))

  pub furthest_held : Held w rs p (length rs) (furthest w rs p)
  unfolding furthest
  furthest_held = rest_held rs 0 Nowhere refl (omega arith) (λ j q h f. omega arith)
