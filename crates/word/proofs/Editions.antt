-- What is told of editions: an edition is the same as itself and as no other; each has words of a width that a machine word holds, in
-- digits that hold them all, of which there are never more than so many. Assumes nothing.
use Rattle.std.proofs.Common.{◌≡◌, ◌^◌, ◌≤◌, true, refl, arith}
use mathlib.Core.Bool.{false≢true}
use Rattle.word.specs.declared.Edition.{Edition}
use Rattle.word.specs.declared.Edition.TheVariants.{New, Old}
use Rattle.word.specs.Edition.{same, terms}

pub same_self : (e : Edition) → same e e ≡ true
unfolding same
same_self Old = refl
same_self New = refl

pub same_told : (d e : Edition) → same d e ≡ true → d ≡ e
unfolding same
same_told Old Old h = refl
same_told Old New h = absurd (false≢true h)
same_told New Old h = absurd (false≢true h)
same_told New New h = refl

pub widest_held : (e : Edition) → (terms e).widest ≤ 64
unfolding terms
widest_held Old = omega arith
widest_held New = omega arith

pub widest_fits : (e : Edition) → 2 ^ (terms e).widest ≡ 16 ^ (terms e).digits
unfolding terms
widest_fits Old = refl
widest_fits New = refl

pub digits_held : (e : Edition) → (terms e).digits ≤ 16
unfolding terms
digits_held Old = omega arith
digits_held New = omega arith
