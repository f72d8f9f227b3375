-- The walk by the order. Bands before the place hold the word, and those after the last one looked at start later: so what was looked at
-- has every band that fails, and its best is the best of all. After the link no run is left from before, so that the walk goes on from the
-- place that it came to. Assumes nothing.
use mathlib.Core.Path.{◌≡◌, refl, sym, ap, ◌∙◌, subst}
use mathlib.Core.Bool.{Bool, true, false, false≢true}
use mathlib.Core.Logic.{◌⊎◌, inl, inr, ⊎_elim}
use mathlib.Core.List.{List}
use Prim.Native.Nat.{ℕ, ◌+◌, ◌≤◌, ◌<◌}
use native.Mathlib.Decide.{dec_le, dec_lt}
use native.Mathlib.Omega.{arith}
use lib.ListN.{get_or, length, take}
use Rattle.rule.specs.declared.band.Band.{Band}
use Rattle.rule.specs.band.route.Band.{holds}
use Rattle.search.specs.rows.route.Bands.{Lie, blank_band}
use Rattle.search.proofs.rows.Reading.{laid_take}
use Rattle.rule.specs.Meaning.{RULES}
use Rattle.chain.specs.declared.Far.{Far}
use Rattle.chain.specs.route.OnBands.{furthest_band}
use Rattle.search.specs.order.route.Order.{InOrder, band_at, eve, placed_band}
use Rattle.chain.specs.due.route.Due.{Begun, Passed, Ready}
use Rattle.chain.proofs.due.Best.{Fails, Held, More, among, furthest_best, unique}
use Rattle.chain.proofs.due.Starts.{Ends, started}

-- the numbers that stand in the order from one place up to another
abbrev pub Seen : List ℕ → (from m j : ℕ) → Type 0
Seen order from m j = (k : ℕ) × (from ≤ k) × (k < m) × (get_or order k 0 ≡ j)

module _ (t n p : ℕ) (bs : List Band) (order : List ℕ) where
  -- one place further
  pub seen_more : (from m : ℕ) (far : Far) → from ≤ m → Held t p bs (More t p bs (Seen order from m) (get_or order m 0)) far → Held t p bs (Seen order from (m + 1)) far
  seen_more from m far low h =
      among t p bs _ _ far h
      (λ j s. ⊎_elim (λ x. (x.0, x.1, omega (arith, x.2), x.3)) (λ x. (m, low, omega arith, sym x)) s)
      (λ j x e. back j x (dec_lt x.0 m))
    where
      back : (j : ℕ) (x : Seen order from (m + 1) j) → Dec (x.0 < m) → Seen order from m j ⊎ (j ≡ get_or order m 0)
      back j x (yes d) = inl (x.0, x.1, d, x.3)
      back j x (no d) = let here : x.0 ≡ m = omega (arith, x.2) in inr (sym x.3 ∙ ap (λ (k : ℕ). get_or order k 0) here)

  -- where no later band can fail p, the best that was looked at is the best of all
  pub complete : (from m : ℕ) (far : Far) → length bs ≡ RULES → n ≤ RULES → InOrder t n bs order → Ready t n bs order from p → m ≤ n
      → ((k : ℕ) → m ≤ k → k < n → p ≤ eve t (placed_band bs order k)) → Held t p bs (Seen order from m) far
      → far ≡ furthest_band (take n bs) t p
  complete from m far long few o r end later h =
      unique t p bs (λ (j : ℕ). j < n) far (furthest_band (take n bs) t p) (among t p bs (Seen order from m) (λ (j : ℕ). j < n) far h to back)
      (furthest_best t p bs n (omega arith))
    where
      to : (j : ℕ) → Seen order from m j → j < n
      to j x = subst (λ (i : ℕ). i < n) x.3 (o.rises.own x.0 (omega (arith, x.2)))

      back : (j : ℕ) → j < n → Fails t p bs j → Seen order from m j
      back j mine e = go (o.placed j mine)
        where
          go : (k : ℕ) × (k < n) × (get_or order k 0 ≡ j) → Seen order from m j
          go (k, here, same) = find (dec_le from k) (dec_lt k m)
            where
              find : Dec (from ≤ k) → Dec (k < m) → Seen order from m j
              find (yes a) (yes b) = (k, a, b, same)
              find (yes a) (no b) =
                  absurd (omega (arith, later k (omega arith) here, r.begun j mine e, ap (λ (i : ℕ). eve t (band_at bs i)) same))
              find (no a) b = absurd (false≢true (sym e ∙ ap (λ (i : ℕ). holds (band_at bs i) p) (sym same) ∙ r.held k (omega arith)))

-- after the link at p, which ends at q
module _ (t n p : ℕ) (bs : List Band) (lie : Lie t n bs) (far : Far) (found : far ≡ furthest_band (take n bs) t p) (q : ℕ) (up : p ≤ q) (below : q < t)
    (ends : Ends far q) where
  since : (j : ℕ) → j < n → holds (band_at bs j) (q + 1) ≡ false → (p ≤ eve t (band_at bs j)) × (eve t (band_at bs j) < q + 1)
  since j mine fails =
      started t p n bs far (subst (Held t p bs (λ (i : ℕ). i < n)) (sym found) (furthest_best t p bs n (omega (arith, lie.places, lie.count)))) q up below ends j mine
      (laid_take t bs n j blank_band mine (omega (arith, lie.places, lie.count)) lie.laid) fails

  pub begun_on : Begun t n bs (q + 1)
  begun_on j mine fails = (since j mine fails).1

  pub ready_on : (order : List ℕ) (m : ℕ) → InOrder t n bs order → Passed t n bs order m p → Ready t n bs order m (q + 1)
  ready_on order m o a =
      record {
        begun = begun_on;
        passed = record { count = a.count; before = λ k h. omega (arith, a.before k h) };
        held = λ k h. go k h (holds (placed_band bs order k) (q + 1)) refl;
      }
    where
      go : (k : ℕ) → k < m → (s : Bool) → holds (placed_band bs order k) (q + 1) ≡ s → holds (placed_band bs order k) (q + 1) ≡ true
      go k h true e = e
      go k h false e = absurd (omega (arith, a.before k h, (since (get_or order k 0) (o.rises.own k (omega (arith, a.count))) e).0))
