-- The lemmas that the goals of `new_rules` want, whatever its tests are named. Assumes nothing.
use mathlib.Core.Path.{◌≡◌, refl}
use Prim.Native.Nat.{ℕ}
use Rattle.rule.specs.declared.Rule.{Rule}
use Rattle.line.specs.declared.scan.Amount.{Amount}
use Rattle.line.specs.declared.Statement.{Statement}
use Rattle.line.specs.declared.Statement.TheVariants as said
use Rattle.naming.specs.Names.{new_rules}

pub none : (st : Statement) → ((u : Rule) → st ≡ said.Rule u → ⊥) → ((a : Amount) → st ≡ said.AtLeast a → ⊥) → ((a : Amount) → st ≡ said.AtMost a → ⊥)
    → ((a c : Amount) → st ≡ said.Within a c → ⊥) → ◌≡◌ {A = ℕ} 0 (new_rules st)
unfolding new_rules
none said.Blank r a b w = refl
none (said.Rule u) r a b w = absurd (r u refl)
none (said.AtLeast x) r a b w = absurd (a x refl)
none (said.AtMost x) r a b w = absurd (b x refl)
none (said.Within x y) r a b w = absurd (w x y refl)
none (said.Open n) r a b w = refl
none said.Mark r a b w = refl
none said.Back r a b w = refl
none said.Forward r a b w = refl
none said.Ask r a b w = refl
none said.Count r a b w = refl
none (said.List l) r a b w = refl
none (said.Why x) r a b w = refl
none said.Show r a b w = refl
none (said.Wrong e) r a b w = refl

pub ruleset wanted = (none)
