-- Where the runs around a word started. A run starts at 0 or one above its band's eve; and a run around the word after a link started after
-- the word that the link was taken at: else its band would have failed there, and reached further than the furthest. Assumes nothing.
use mathlib.Core.Path.{◌≡◌, refl, sym, ap, ap₂, ◌∙◌}
use mathlib.Core.Bool.{Bool, true, false, cond}
use mathlib.Core.Logic.{◌⊎◌, inl, inr, ⊎_elim}
use mathlib.Core.List.{List}
use Prim.Native.Nat.{ℕ, suc, ◌+◌, ◌-◌, ◌≤◌, ◌<◌}
use native.Mathlib.Decide.{dec_le, dec_lt, ℕ_discrete}
use native.Mathlib.Omega.{arith}
use borrow.Author.Tests.{ne_eqb}
use lib.Dec.{eqb}
use Rattle.word.specs.Search.{sink}
use Rattle.word.proofs.Climb.{climb_is, no_further}
use Rattle.word.proofs.Sink.{sink_is}
use Rattle.rule.specs.declared.band.Band.{Band}
use Rattle.rule.specs.band.route.Band.{Laid, holds}
use Rattle.rule.proofs.band.Runs.{inside-from, inside_zero, outside_from, outside_zero}
use Rattle.chain.specs.declared.Far.{Far}
use Rattle.chain.specs.declared.Far.TheVariants.{To, Nowhere}
use Rattle.search.specs.order.route.Order.{band_at, eve}
use Rattle.chain.proofs.due.Best.{Held, reach_of}

module _ (t p : ℕ) (b : Band) (laid : Laid t b) (word : p ≤ t) (fails : holds b p ≡ false) where
  pub start_eve : (sink (holds b) p ≡ 0) ⊎ (sink (holds b) p ≡ suc (eve t b))
  unfolding eve
  start_eve = go b.inside refl
    where
      inner : b.inside ≡ true → Dec (b.from ≤ p) → Dec (b.from ≡ 0)
          → (sink (holds b) p ≡ 0) ⊎ (sink (holds b) p ≡ suc (cond b.inside (cond (eqb b.from 0) t (b.from - 1)) b.to))
      inner e (yes h) (yes z) = inl (inside-from b t p laid word fails e h ∙ z)
      inner e (yes h) (no z) =
          let up : b.from ≡ suc (b.from - 1) = omega arith in
          inr (inside-from b t p laid word fails e h
          ∙ up
          ∙ ap suc (sym (ap₂ (λ (i z : Bool). cond i (cond z t (b.from - 1)) b.to) e (ne_eqb b.from 0 z))))
      inner e (no h) z = inl (inside_zero b t p laid word fails e (omega arith))

      outer : b.inside ≡ false → Dec (b.to < p)
          → (sink (holds b) p ≡ 0) ⊎ (sink (holds b) p ≡ suc (cond b.inside (cond (eqb b.from 0) t (b.from - 1)) b.to))
      outer e (yes h) =
          let up : b.to + 1 ≡ suc b.to = omega arith in
          inr (outside_from b t p laid word fails e h
          ∙ up
          ∙ ap suc (sym (ap (λ (i : Bool). cond i (cond (eqb b.from 0) t (b.from - 1)) b.to) e)))
      outer e (no h) = inl (outside_zero b t p laid word fails e (omega arith))

      go : (i : Bool) → b.inside ≡ i → (sink (holds b) p ≡ 0) ⊎ (sink (holds b) p ≡ suc (cond b.inside (cond (eqb b.from 0) t (b.from - 1)) b.to))
      go true e = inner e (dec_le b.from p) (ℕ_discrete b.from 0)
      go false e = outer e (dec_lt b.to p)

-- a link by the furthest that was found ends at q
abbrev pub Ends : Far → ℕ → Type 0
Ends (To r i) q = r ≡ q
Ends Nowhere q = Unit {0}

module _ (t p n : ℕ) (bs : List Band) (far : Far) (best : Held t p bs (λ (j : ℕ). j < n) far) (q : ℕ) (up : p ≤ q) (below : q < t) (ends : Ends far q)
    (j : ℕ) (mine : j < n) where
  -- a band that fails p holds the next word after the link
  too_far : (f : Far) → Held t p bs (λ (i : ℕ). i < n) f → Ends f q → holds (band_at bs j) p ≡ false → q + 1 ≤ reach_of t p bs j → ⊥
  too_far (To r i) h e fails far = ⊎_elim (λ x. omega arith) (λ x. omega arith) (h.most j mine fails)
  too_far Nowhere h e fails far = h j mine fails

  pub started : Laid t (band_at bs j) → holds (band_at bs j) (q + 1) ≡ false → (p ≤ eve t (band_at bs j)) × (eve t (band_at bs j) < q + 1)
  started laid fails = go (dec_le s p)
    where
      s : ℕ
      s = sink (holds (band_at bs j)) (q + 1)

      each : s ≤ p → (y : ℕ) → p ≤ y → y ≤ q + 1 → Dec (y < q + 1) → holds (band_at bs j) y ≡ false
      each d y a b (yes h) = (sink_is (holds (band_at bs j)) (q + 1)).misses y (omega arith) h
      each d y a b (no h) = let same : y ≡ q + 1 = omega arith in ap (holds (band_at bs j)) same ∙ fails

      go : Dec (s ≤ p) → (p ≤ eve t (band_at bs j)) × (eve t (band_at bs j) < q + 1)
      go (yes d) =
          absurd (
          too_far far best ends (each d p (omega arith) (omega arith) (dec_lt p (q + 1)))
          (no_further (holds (band_at bs j)) (climb_is (holds (band_at bs j)) (t - p) p t (omega arith)) (q + 1) (omega arith)
          (λ y a b. each d y (omega arith) b (dec_lt y (q + 1))))
          )
      go (no d) =
          let low = (sink_is (holds (band_at bs j)) (q + 1)).order in
          ⊎_elim (λ x. absurd (omega arith)) (λ x. (omega arith, omega arith)) (start_eve t (q + 1) (band_at bs j) laid (omega arith) fails)
