-- No second answer satisfies a statement of what is told of numbers that a caller keeps: they are a sheet's or they are not, and in each case
-- the statement says what is told. Assumes nothing.
use mathlib.Core.Path.{◌≡◌, sym, ◌∙◌}
use mathlib.Core.List.{List}
use Prim.Native.Nat.{ℕ}
use Rattle.keeping.specs.kept_numbers.Numbers.{IsKept}
use Rattle.keeping.proofs.kept_numbers.Kept.{kept_dec}
use Rattle.keeping.specs.on_kept.Told.{Asked, Counted, Listed}

pub asked_unique : {ns b b₁ b₂ zs₁ zs₂ : List ℕ} {r₁ r₂ : ℕ} → Asked ns b b₁ zs₁ r₁ → Asked ns b b₂ zs₂ r₂
    → (r₁ ≡ r₂) × (zs₁ ≡ zs₂) × (b₁ ≡ b₂)
asked_unique {ns} {b} {b₁} {b₂} {zs₁} {zs₂} {r₁} {r₂} x y = go (kept_dec ns)
  where
    go : Dec (IsKept ns) → (r₁ ≡ r₂) × (zs₁ ≡ zs₂) × (b₁ ≡ b₂)
    go (yes h) =
        let p = x.on_page h.on h.reached h.gives in
        let q = y.on_page h.on h.reached h.gives in
        (p.0.0 ∙ sym q.0.0, p.0.1 ∙ sym q.0.1, p.1 ∙ sym q.1)
    go (no n) =
        let p = x.spoiled n in
        let q = y.spoiled n in
        (p.0.0 ∙ sym q.0.0, p.0.1 ∙ sym q.0.1, p.1 ∙ sym q.1)

pub counted_unique : {ns zs₁ zs₂ : List ℕ} {r₁ r₂ : ℕ} → Counted ns zs₁ r₁ → Counted ns zs₂ r₂ → (r₁ ≡ r₂) × (zs₁ ≡ zs₂)
counted_unique {ns} {zs₁} {zs₂} {r₁} {r₂} x y = go (kept_dec ns)
  where
    go : Dec (IsKept ns) → (r₁ ≡ r₂) × (zs₁ ≡ zs₂)
    go (yes h) =
        let p = x.on_page h.on h.reached h.gives in
        let q = y.on_page h.on h.reached h.gives in
        (p.0 ∙ sym q.0, p.1 ∙ sym q.1)
    go (no n) = let p = x.spoiled n in let q = y.spoiled n in (p.0 ∙ sym q.0, p.1 ∙ sym q.1)

pub listed_unique : {ns : List ℕ} {start : ℕ} {b b₁ b₂ : List ℕ} {v₁ v₂ r₁ r₂ : ℕ} → Listed ns start b b₁ v₁ r₁ → Listed ns start b b₂ v₂ r₂
    → (r₁ ≡ r₂) × (v₁ ≡ v₂) × (b₁ ≡ b₂)
listed_unique {ns} {start} {b} {b₁} {b₂} {v₁} {v₂} {r₁} {r₂} x y = go (kept_dec ns)
  where
    go : Dec (IsKept ns) → (r₁ ≡ r₂) × (v₁ ≡ v₂) × (b₁ ≡ b₂)
    go (yes h) =
        let p = x.on_page h.on h.reached h.gives in
        let q = y.on_page h.on h.reached h.gives in
        (p.0 ∙ sym q.0, p.1 ∙ sym q.1, p.2 ∙ sym q.2)
    go (no n) =
        let p = x.spoiled n in
        let q = y.spoiled n in
        (p.0 ∙ sym q.0, p.1 ∙ sym q.1, p.2 ∙ sym q.2)
