-- How many digits a link has, and where an empty line ends. Assumes nothing.
use mathlib.Core.Path.{◌≡◌, refl}
use mathlib.Core.Bool.{true}
use mathlib.Core.List.{List, [], ◌∷◌}
use Prim.Native.Nat.{ℕ}
use native.Mathlib.Omega.{arith}
use borrow.Author.Tests.{eqb-true}
use lib.ListN.{length}
use Rattle.word.specs.declared.Edition.{Edition}
use Rattle.word.proofs.Tests.{both_pass}
use Rattle.frame.specs.fields.Fields.{WORD}
use Rattle.citing.specs.linked.Linked.{bare_end, end_of, is_link}

pub empty_end : (l : List ℕ) → length l ≡ 0 → 0 ≡ bare_end l
unfolding bare_end
empty_end [] e = refl
empty_end (b ∷ l) e = absurd (omega arith)

-- a link of an edition has as many digits as that
pub length_of : (e : Edition) (l : List ℕ) → is_link e l ≡ true → length l ≡ end_of (WORD e)
unfolding is_link
length_of e l h = eqb-true (length l) (end_of (WORD e)) (both_pass _ _ h).0
