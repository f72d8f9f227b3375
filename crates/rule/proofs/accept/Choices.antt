-- What the code's choices tell of the tests in its contracts: a comparison returned as it is, and a call's result asked
-- negated. Assumes nothing.
use mathlib.Core.Path.{◌≡◌, sym, ap, ◌∙◌}
use mathlib.Core.Bool.{Bool, true, false, false≢true, not}
use Prim.Native.Nat.{ℕ}
use native.Mathlib.Decide.{dec_le}
use native.Mathlib.Omega.{arith}
use borrow.Author.Tests.{le-leb, le-ltb, lt-leb, lt-ltb, not-false, not-true}
use lib.Dec.{leb, ltb}

pub above : (a b : ℕ) → ltb b a ≡ not (leb a b)
above a b =
    elim (dec_le a b) [
      | yes h ↦ le-ltb b a h ∙ sym (ap not (le-leb a b h))
      | no h ↦ lt-ltb b a (omega arith) ∙ sym (ap not (lt-leb a b (omega arith)))
    ]

-- r is what a call gave, and t the test that it ensures
pub passed : {r t : Bool} → r ≡ t → not r ≡ false → t ≡ true
passed e h = sym e ∙ not-false _ h

pub failed : {r t : Bool} → r ≡ t → not r ≡ true → t ≡ false
failed e h = sym e ∙ not-true _ h

-- a test that failed has not passed
pub never {ℓ} : {A : Type ℓ} → false ≡ true → A
never e = absurd (false≢true e)
