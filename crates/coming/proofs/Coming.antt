-- What a call came to, by the tests that the code makes of its answer and of errno. Assumes nothing.
use mathlib.Core.Path.{◌≡◌, refl, sym, ap, ◌∙◌}
use mathlib.Core.Bool.{Bool, true, false, cond, ◌&&◌, false≢true}
use Prim.Native.Nat.{ℕ, zero, suc, ◌<◌}
use native.Mathlib.Omega.{arith}
use borrow.Author.Tests.{lt-ltb, ltb-false, ltb-true, ne_eqb}
use lib.Dec.{ltb}
use lib.IntN.{ℤ, pos, negsuc}
use lib.Signed.{lt_z}
use Rattle.coming.specs.declared.Came.{Came}
use Rattle.coming.specs.declared.Came.TheVariants.{Bytes, Nothing, Interrupted, Failed}
use Rattle.coming.specs.Calls.{MOST, came_to, follows, goes_on, interrupted}

pub some : (got error : ℤ) → lt_z (pos 0) got ≡ true → Bytes ≡ came_to got error
unfolding came_to
some (pos zero) error e = absurd (false≢true e)
some (pos (suc n)) error e = refl
some (negsuc n) error e = absurd (false≢true e)

pub no_more : (got error : ℤ) → got ≡ pos 0 → Nothing ≡ came_to got error
unfolding came_to
no_more got error e = rw e

below : (got error : ℤ) → lt_z (pos 0) got ≡ false → (got ≡ pos 0 → ⊥) → cond (interrupted error) Interrupted Failed ≡ came_to got error
unfolding came_to
below (pos zero) error e n = absurd (n refl)
below (pos (suc k)) error e n = absurd (omega (arith, ltb-false 0 (suc k) e))
below (negsuc k) error e n = refl

pub again : (got error : ℤ) → lt_z (pos 0) got ≡ false → (got ≡ pos 0 → ⊥) → error ≡ pos 4 → Interrupted ≡ came_to got error
unfolding interrupted
again got error e n i = ap (λ x. cond (interrupted x) Interrupted Failed) (sym i) ∙ below got error e n

not_interrupted : (error : ℤ) → (error ≡ pos 4 → ⊥) → interrupted error ≡ false
unfolding interrupted
not_interrupted (pos n) h = ne_eqb n 4 (λ e. h (ap pos e))
not_interrupted (negsuc n) h = refl

pub fails : (got error : ℤ) → lt_z (pos 0) got ≡ false → (got ≡ pos 0 → ⊥) → (error ≡ pos 4 → ⊥) → Failed ≡ came_to got error
fails got error e n i = ap (λ b. cond b Interrupted Failed) (sym (not_interrupted error i)) ∙ below got error e n

pub at_most : (came : Came) (more : Bool) → false ≡ goes_on came more MOST
unfolding goes_on
at_most came more = refl

pub before_most : (came : Came) (more : Bool) (calls : ℕ) → calls < MOST → follows came more ≡ goes_on came more calls
unfolding goes_on
before_most came more calls h = ap (λ b. b && follows came more) (sym (lt-ltb calls MOST h))

left : (a b : Bool) → (a && b) ≡ true → a ≡ true
left true b e = refl
left false b e = e

pub bounded : (came : Came) (more : Bool) (calls : ℕ) → goes_on came more calls ≡ true → calls < MOST
unfolding goes_on
bounded came more calls e = ltb-true calls MOST (left (ltb calls MOST) (follows came more) e)

-- what tells the four ways apart
pub ruleset told = (some, no_more, again, fails)
