-- What is asked of counts that are added up.
use Rattle.std.specs.Prelude.{◌≡◌}

-- Counts are added in any order and grouping, and to add nothing to a sum leaves it.
pub record CountLaws {C : Type 0} (empty : C) (both : C → C → C) : Type 0 where
  pub commutes : (x y : C) → both x y ≡ both y x
  pub assoc : (x y z : C) → both (both x y) z ≡ both x (both y z)
  pub neutral : (x y : C) → both empty (both x y) ≡ both x y
