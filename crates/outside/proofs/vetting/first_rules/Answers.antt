-- `first_rules` meets its contract: the rules are laid over places that have none. Assumes nothing.
use mathlib.Core.Path.{◌∙◌}
use borrow.Author.Rules.{rules}
use Rattle.rule.specs.accept.Accept.{no_rule}
use Rattle.batch.specs.course.Batch.{MOST}
use Rattle.outside.specs.handing.Handed.{rule_in, rules_in}
use Rattle.outside.proofs.vetting.First.{filled}
use Rattle.outside.proofs.vetting.first_rules.Goals as goal

pub returns : goal.returns
unfolding rules_in
returns c = c.lay_over.ensures rule_in (λ a t p. search rules) ∙ filled MOST no_rule (rules_in c.args.rules.now)
