-- `put_at_least` meets its contract: the sense picks the sign. Assumes nothing.
use mathlib.Core.Path.{sym}
use Rattle.digits.specs.hexadecimal.Text.{bytes_of}
use Rattle.digits.proofs.phrase.Putting.{put_as}
use Rattle.wording.specs.signs.Signs.{at_least}
use Rattle.wording.proofs.signs.Senses.{negated_is, plain_is}
use Rattle.wording.proofs.signs.put_at_least.Goals as goal

pub put_one-requires : goal.put_one-requires
unfolding at_least bytes_of
put_one-requires c = rw (plain_is _ _ _ c.if-sense-eq0.true) at c.requires

pub returns-then-sense-eq0 : goal.returns-then-sense-eq0
unfolding at_least bytes_of
returns-then-sense-eq0 c = put_as (sym (plain_is _ _ _ c.if-sense-eq0.true)) c.put_one.ensures

pub put_one-requires-2 : goal.put_one-requires-2
unfolding at_least bytes_of
put_one-requires-2 c = rw (negated_is _ _ _ c.if-sense-eq0.false) at c.requires

pub returns : goal.returns
unfolding at_least bytes_of
returns c = put_as (sym (negated_is _ _ _ c.if-sense-eq0.false)) c.put_one-2.ensures
