-- `put_before` meets its contract: the sense picks the row. Assumes nothing.
use mathlib.Core.Path.{◌≡◌, sym, ap}
use mathlib.Core.List.{[]}
use Prim.Native.Nat.{ℕ}
use native.Mathlib.Omega.{arith}
use lib.ListN.{length}
use Rattle.digits.specs.hexadecimal.Text.{bytes_of}
use Rattle.wording.specs.signs.Signs.{before}
use Rattle.digits.proofs.phrase.Putting.{put_as, put_nothing}
use Rattle.wording.proofs.signs.Senses.{negated_is, plain_is}
use Rattle.wording.proofs.signs.put_before.Goals as goal

plain : (sense : ℕ) → sense ≡ 0 → before sense ≡ []
unfolding before
plain sense h = plain_is sense [] (bytes_of "not ") h

negated : (sense : ℕ) → (sense ≡ 0 → ⊥) → before sense ≡ bytes_of "not "
unfolding before
negated sense h = negated_is sense [] (bytes_of "not ") h

pub returns-then-sense-eq0 : goal.returns-then-sense-eq0
returns-then-sense-eq0 c = put_as (sym (plain c.args.sense (omega arith))) (put_nothing c.args.out.now c.args.at)

pub put_text-requires : goal.put_text-requires
unfolding bytes_of
put_text-requires c =
    omega (arith, ap length (negated c.args.sense (λ e. omega arith)))

pub returns : goal.returns
unfolding bytes_of
returns c =
    put_as (sym (negated c.args.sense (λ e. omega arith))) c.put_text.ensures
