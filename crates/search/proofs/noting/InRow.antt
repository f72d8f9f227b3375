-- The note on some rules is in the last one's row. Assumes nothing.
use mathlib.Core.Path.{◌≡◌, refl, ap}
use mathlib.Core.List.{List, []}
use Prim.Native.Nat.{ℕ, zero, suc, ◌-◌}
use native.Mathlib.Omega.{arith}
use lib.ListN.{get_or, set}
use Rattle.rule.specs.declared.bits.Fixed.{Fixed}
use Rattle.search.specs.declared.verdict.Kept.{Kept}
use Rattle.search.specs.noting.route.Note.{note_at, note_in, noting, with_note}

-- the note on some rules is in the last one's row, and is written there
pub note_in_lem : (w : ℕ) (rows : List (List ℕ)) (n : ℕ) → (n ≡ 0 → ⊥) → note_in (get_or rows (n - 1) []) ≡ note_at w rows n
unfolding note_at
note_in_lem w rows zero z = absurd (z refl)
note_in_lem w rows (suc i) z = ap (λ (j : ℕ). note_in (get_or rows j [])) (omega arith)

pub noting_in : (k : Kept) (f : Fixed) (rows : List (List ℕ)) (n : ℕ) → (n ≡ 0 → ⊥)
    → set rows (n - 1) (with_note k f (get_or rows (n - 1) [])) ≡ noting k f rows n
unfolding noting
noting_in k f rows zero z = absurd (z refl)
noting_in k f rows (suc i) z = ap (λ (j : ℕ). set rows j (with_note k f (get_or rows j []))) (omega arith)
