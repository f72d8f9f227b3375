-- A call with one number of its own is refused in one way, or in none. Assumes nothing.
use mathlib.Core.Path.{◌≡◌, refl, sym, ◌∙◌}
use Prim.Native.Nat.{ℕ}
use Rattle.sheet.specs.declared.slate.Head.{Head}
use Rattle.sheet.specs.slate.route.Numbers.{before}
use Rattle.sheet.specs.slate.stepping.route.Steps.{Refused}
use Rattle.sheet.specs.slate.stepping.route.Steps.Refused.{before_first, own_ground}

-- the number of a refusal is one, and is not 0
pub one_number : {h : Head} {own n m : ℕ} {Ground : Type 0} → Refused h own Ground n → Refused h own Ground m → n ≡ m
one_number (before_first a p) (before_first b q) = a ∙ sym b
one_number (before_first a p) (own_ground b g) = absurd (p (a ∙ b))
one_number (own_ground a g) (before_first b q) = absurd (q (b ∙ a))
one_number (own_ground a g) (own_ground b k) = refl

-- a refusal, where nothing comes before the table and the ground is not there
pub no_refusal : {h : Head} {own n : ℕ} {Ground : Type 0} → before h.stands h.opening.width ≡ 0 → (Ground → ⊥) → Refused h own Ground n → ⊥
no_refusal e out (before_first a p) = p (a ∙ e)
no_refusal e out (own_ground a g) = out g
