-- `below` meets its contract: each way out is a case of the count by pairs. The measure is p, which a call of itself halves. Assumes
-- nothing.
use mathlib.Core.Path.{◌≡◌, sym}
use Prim.Native.Nat.{ℕ}
use native.Mathlib.Nat.{lt_of_le_of_lt}
use native.Mathlib.Omega.{arith}
use borrow.Author.Rules.{rules}
use lib.Bits.{bit_and}
use Rattle.word.specs.Search.{count}
use Rattle.rule.specs.bits.route.Fixed.{Tidy}
use Rattle.rule.proofs.bits.Next.{tidy_value}
use Rattle.rule.proofs.rank.Pairs.{halved_tidy, short, room, even_words, last_misses, last_hits, none_clash}
use Rattle.rule.proofs.rank.+below.Goals.{After-below-pairs}
use Rattle.rule.proofs.rank.+below.Goals as goal

tidy : {t : ℕ} (c : After-below-pairs t) → bit_and c.in-Bits.value c.in-Bits.mask ≡ c.in-Bits.value
tidy c = tidy_value _ _ _ c.in-Bits.is c.requires

pub returns-in_default : goal.returns-in_default
returns-in_default t c = rw c.in_default.is (sym (none_clash _ _))

pub returns-then-p-eq0 : goal.returns-then-p-eq0
unfolding count
returns-then-p-eq0 t c = rw c.if-p-eq0.true

pub below-pairs-requires : goal.below-pairs-requires
unfolding Tidy
below-pairs-requires t c =
    (omega arith, halved_tidy _ _ (tidy_value _ _ _ c.in-Bits.is c.requires))

pub overflow_mul-paired : goal.overflow_mul-paired
overflow_mul-paired t c = record { fits = lt_of_le_of_lt (short _ _ (tidy (goal.at.overflow_mul-paired t c).After-below-pairs) _ _ _ c.below-pairs.ensures (omega arith)) (search rules) }

pub returns-then-p-eq0-2 : goal.returns-then-p-eq0-2
returns-then-p-eq0-2 t c =
    rw c.in-Bits.is (even_words _ _ (tidy (goal.at.returns-then-p-eq0-2 t c).After-below-pairs) _ _ _ c.below-pairs.ensures (omega arith) (omega arith))

pub returns-then-p-mask : goal.returns-then-p-mask
returns-then-p-mask t c =
    rw c.in-Bits.is
    (last_misses _ _ (tidy (goal.at.returns-then-p-mask t c).After-below-pairs) _ _ _ c.below-pairs.ensures (omega arith) (omega arith) (omega (arith, tidy (goal.at.returns-then-p-mask t c).After-below-pairs)))

pub overflow_add-result : goal.overflow_add-result
overflow_add-result t c =
    record { fits = lt_of_le_of_lt (room _ _ (tidy (goal.at.overflow_add-result t c).After-below-pairs) _ _ _ c.below-pairs.ensures (omega arith) (omega arith) _ (omega arith)) (search rules) }

pub returns : goal.returns
returns t c =
    rw c.in-Bits.is
    (last_hits _ _ (tidy (goal.at.returns t c).After-below-pairs) _ _ _ c.below-pairs.ensures (omega arith) (omega arith) (omega (arith, tidy (goal.at.returns t c).After-below-pairs)) _ (omega arith))
