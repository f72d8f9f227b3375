-- `other` meets its contract: each arm has its row. Assumes nothing.
use native.Mathlib.Omega.{arith}
use mathlib.Core.Path.{◌≡◌, ap, sym}
use Prim.Native.Nat.{ℕ, suc, ◌-◌, ◌≤◌}
use native.Mathlib.Decide.{dec_le, ℕ_discrete}
use lib.ListN.{get_or-eq_default}
use Rattle.line.specs.declared.scan.Amount.{Amount}
use Rattle.line.specs.declared.Statement.TheVariants.{Blank}
use Rattle.line.specs.Line.{other, others}
use Rattle.line.proofs.other.Goals as goal

-- what is at least k and is not k is more
up : (k row : ℕ) → k ≤ row → (row ≡ k → ⊥) → suc k ≤ row
up k row h d = omega arith

-- a row that has no statement: those of rules, `not`, a name, and what is past the last
none : (row : ℕ) (a b : Amount) → (15 ≤ row → (row ≡ 18 → ⊥) → 29 ≤ row) → Blank ≡ other row a b
unfolding other
none row a b past = go (dec_le row 14) (ℕ_discrete row 18)
  where
    go : Dec (row ≤ 14) → Dec (row ≡ 18) → Blank ≡ other row a b
    go (yes h) e = let z : row - 14 ≡ 0 = omega arith in rw z
    go (no h) (yes e) = let z : row - 14 ≡ 4 = omega arith in rw z
    go (no h) (no e) = let k = past (omega arith) e in sym (get_or-eq_default (others a b) Blank {n = row - 14} (omega arith))

pub returns-in-15 : goal.returns-in-15
unfolding other
returns-in-15 c =
    ap (λ (r : ℕ). other r c.args.first c.args.second) (sym c.in-15.is)

pub returns-in-16 : goal.returns-in-16
unfolding other
returns-in-16 c =
    ap (λ (r : ℕ). other r c.args.first c.args.second) (sym c.in-16.is)

pub returns-in-17 : goal.returns-in-17
unfolding other
returns-in-17 c =
    ap (λ (r : ℕ). other r c.args.first c.args.second) (sym c.in-17.is)

pub returns-in-19 : goal.returns-in-19
unfolding other
returns-in-19 c =
    ap (λ (r : ℕ). other r c.args.first c.args.second) (sym c.in-19.is)

pub returns-in-20 : goal.returns-in-20
unfolding other
returns-in-20 c =
    ap (λ (r : ℕ). other r c.args.first c.args.second) (sym c.in-20.is)

pub returns-in-21 : goal.returns-in-21
unfolding other
returns-in-21 c =
    ap (λ (r : ℕ). other r c.args.first c.args.second) (sym c.in-21.is)

pub returns-in-22 : goal.returns-in-22
unfolding other
returns-in-22 c =
    ap (λ (r : ℕ). other r c.args.first c.args.second) (sym c.in-22.is)

pub returns-in-23 : goal.returns-in-23
unfolding other
returns-in-23 c =
    ap (λ (r : ℕ). other r c.args.first c.args.second) (sym c.in-23.is)

pub returns-in-24 : goal.returns-in-24
unfolding other
returns-in-24 c =
    ap (λ (r : ℕ). other r c.args.first c.args.second) (sym c.in-24.is)

pub returns-in-25 : goal.returns-in-25
unfolding other
returns-in-25 c =
    ap (λ (r : ℕ). other r c.args.first c.args.second) (sym c.in-25.is)

pub returns-in-26 : goal.returns-in-26
unfolding other
returns-in-26 c =
    ap (λ (r : ℕ). other r c.args.first c.args.second) (sym c.in-26.is)

pub returns-in-27 : goal.returns-in-27
unfolding other
returns-in-27 c =
    ap (λ (r : ℕ). other r c.args.first c.args.second) (sym c.in-27.is)

pub returns-in-28 : goal.returns-in-28
unfolding other
returns-in-28 c =
    ap (λ (r : ℕ). other r c.args.first c.args.second) (sym c.in-28.is)

pub returns-in_default : goal.returns-in_default
returns-in_default c =
    none c.args.row c.args.first c.args.second
    (λ h e.
    up 28 c.args.row (up 27 c.args.row (up 26 c.args.row (up 25 c.args.row (up 24 c.args.row (up 23 c.args.row (up 22 c.args.row (up 21 c.args.row (up 20 c.args.row (up 19 c.args.row (up 18 c.args.row (up 17 c.args.row (up 16 c.args.row (up 15 c.args.row h (omega arith)) (omega arith)) (omega arith)) e) (omega arith)) (omega arith)) (omega arith)) (omega arith)) (omega arith)) (omega arith)) (omega arith)) (omega arith)) (omega arith)) (omega arith))
