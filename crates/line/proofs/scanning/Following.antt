-- What a kind adds to a line that is neither `not` nor a colon nor a name. Assumes nothing.
use mathlib.Core.Path.{◌≡◌, refl}
use mathlib.Core.Bool.{cond}
use Prim.Native.Nat.{ℕ}
use Rattle.line.specs.declared.grammar.Place.{Place}
use Rattle.line.specs.declared.grammar.kind.Kind.{Kind}
use Rattle.line.specs.declared.grammar.kind.Kind.TheVariants.{Colon, Name, Not}
use Rattle.line.specs.declared.scan.Scan.{Scan}
use Rattle.line.specs.scan.Scan.{is_number, numbered, placed}
use Rattle.line.specs.scanning.Scanning.{followed}

pub plain : (s : Scan) (k : Kind) (p : Place) (at : ℕ) → (k ≡ Not → ⊥) → (k ≡ Colon → ⊥) → (k ≡ Name → ⊥)
    → followed s k p at ≡ cond (is_number k) (numbered s p) (placed s p)
unfolding followed
plain s Not p at a b c = absurd (a refl)
plain s Colon p at a b c = absurd (b refl)
plain s Name p at a b c = absurd (c refl)
plain s k p at a b c = refl
