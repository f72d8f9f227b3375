-- `made_of` meets its contract: the opening is made of its numbers first. Assumes nothing.
use mathlib.Core.Path.{ap, ◌∙◌}
use Rattle.page.specs.declared.Opening.{Opening}
use Rattle.outside.specs.handing.Handed.{rules_in}
use Rattle.outside.specs.making.Made.{given, makes}
use Rattle.outside.proofs.list_made.made_of.Goals as goal

pub returns : goal.returns
returns c =
    let us = rules_in c.args.rules.now in
    c.make.ensures ∙ ap (λ (o : Opening). given (makes o us)) c.opening.ensures
