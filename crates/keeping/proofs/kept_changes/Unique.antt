-- No second outcome satisfies the statement of a call on numbers that a caller keeps: they are a sheet's or they are not, and in each case
-- the statement says what the outcome is. Read so, it says too that a refused call leaves every number. Assumes nothing.
use mathlib.Core.Path.{◌≡◌, sym, ap, ◌∙◌}
use mathlib.Core.List.{List}
use Prim.Native.Nat.{ℕ}
use Rattle.page.specs.Calls.{Call}
use Rattle.page.specs.Page.{Page}
use Rattle.page.proofs.Refusals.{after_refused}
use Rattle.sheet.specs.Record.{fresh}
use Rattle.keeping.specs.kept_numbers.Numbers.{IsKept, numbers_of}
use Rattle.keeping.proofs.kept_numbers.Kept.{kept_dec}
use Rattle.keeping.specs.kept_changes.Changed.{Changed}

pub changed_unique : {c : Call} {ns a b : List ℕ} {r s : ℕ} → Changed c ns a r → Changed c ns b s → (r ≡ s) × (a ≡ b)
changed_unique {c} {ns} {a} {b} {r} {s} x y = go (kept_dec ns)
  where
    go : Dec (IsKept ns) → (r ≡ s) × (a ≡ b)
    go (yes h) =
        let p = x.on_page h.on h.reached h.gives in
        let q = y.on_page h.on h.reached h.gives in
        (p.0 ∙ sym q.0, p.1 ∙ sym q.1)
    go (no n) = let p = x.spoiled n in let q = y.spoiled n in (p.0 ∙ sym q.0, p.1 ∙ sym q.1)

pub changed_leaves : {c : Call} {ns a : List ℕ} {r : ℕ} → Changed c ns a r → (r ≡ 0 → ⊥) → a ≡ ns
changed_leaves {c} {ns} {a} {r} x k = go (kept_dec ns)
  where
    go : Dec (IsKept ns) → a ≡ ns
    go (yes h) =
        let p = x.on_page h.on h.reached h.gives in
        p.1 ∙ ap (λ (pg : Page). numbers_of (fresh pg)) (after_refused h.on c (λ z. k (p.0 ∙ z))) ∙ sym h.gives
    go (no n) = (x.spoiled n).1
