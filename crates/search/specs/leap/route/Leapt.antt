-- Where a leap comes to. A route: which word it is goes by an order that nobody proves, and whoever leaps goes on searching from there.
use Rattle.std.specs.Prelude.{◌≡◌, false, List, ℕ, suc, ◌≤◌, ◌<◌}
use Rattle.std.specs.Prelude.{Option}
use Rattle.std.specs.Prelude.{Some, None}
use Rattle.rule.specs.declared.band.Band.{Band}
use Rattle.rule.specs.declared.bits.Fixed.{Fixed}
use Rattle.search.specs.rows.route.Bands.{passes}

-- no word from p on below q passes
abbrev pub NoneFrom : List Band → Fixed → (p q : ℕ) → Type 0
NoneFrom bs f p q = (x : ℕ) → p ≤ x → x < q → passes bs f x ≡ false

-- from p to a word before which none passes, or to nothing where none up to the top word t does
pub record Leapt (bs : List Band) (f : Fixed) (t p : ℕ) (r : Option ℕ) : Type 0 where
  pub word : (q : ℕ) → r ≡ Some q → (p ≤ q) × (q ≤ t) × NoneFrom bs f p q
  pub nothing : r ≡ None → NoneFrom bs f p (suc t)
