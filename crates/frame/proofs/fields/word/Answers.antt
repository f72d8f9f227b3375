-- `word` meets its contract: the digits are those of the edition's terms. Assumes nothing.
use mathlib.Core.Path.{ap}
use Rattle.word.specs.declared.Terms.{Terms}
use Rattle.frame.specs.fields.Fields.{field}
use Rattle.frame.proofs.fields.word.Goals as goal

pub returns : goal.returns
returns c = ap (λ (t : Terms). field t.digits c.args.x) c.terms-digits.ensures
