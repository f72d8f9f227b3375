-- A fact of every number, shown form by form: of 0 and of each form by a list of proofs, a row each, and of what is past them by one.
-- Assumes nothing.
use mathlib.Core.Path.{◌≡◌, sym, subst}
use Prim.Native.Nat.{ℕ, suc, ◌≤◌}
use native.Mathlib.Decide.{ℕ_discrete}
use native.Mathlib.Omega.{arith}
use Rattle.rule.specs.Meaning.{FORMS}

-- a proof for each number from a up to below b
pub data Rows (P : ℕ → Type 0) (b : ℕ) : ℕ → Type 0 where
  end : Rows P b b
  row : {a : ℕ} → P a → Rows P b (suc a) → Rows P b a

from_rows : (P : ℕ → Type 0) (b : ℕ) {a : ℕ} → Rows P b a → ((n : ℕ) → b ≤ n → P n) → (n : ℕ) → a ≤ n → P n
from_rows P b end past n h = past n h
from_rows P b (row {a} p rows) past n h = go (ℕ_discrete n a) (from_rows P b rows past n)
  where
    go : Dec (n ≡ a) → (suc a ≤ n → P n) → P n
    go (yes e) later = subst P (sym e) p
    go (no d) later = later (omega arith)

pub by_form : (P : ℕ → Type 0) → Rows P (suc FORMS) 0 → ((n : ℕ) → suc FORMS ≤ n → P n) → (n : ℕ) → P n
by_form P rows past n = from_rows P (suc FORMS) rows past n (omega arith)
