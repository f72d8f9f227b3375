-- `vet` meets its contract: the batch is handed the rules looked at, and its answer is written down. Assumes nothing.
use mathlib.Core.Path.{◌≡◌, ap, ◌∙◌}
use lib.ListN.{length, take}
use Rattle.rule.specs.accept.Accept.{no_rule}
use Rattle.batch.specs.course.Batch.{MOST}
use Rattle.batch.specs.adds.route.Few.{few}
use Rattle.batch.proofs.Few.{few_high, few_low}
use Rattle.batch.proofs.Cut.{read_so}
use Rattle.outside.specs.handing.Handed.{rules_in}
use Rattle.outside.proofs.handing.Rows.{as_many}
use Rattle.outside.proofs.vetting.First.{as_read, vetted}
use Rattle.outside.proofs.vetting.vet.Goals as goal

pub returns : goal.returns
returns c =
    let us = rules_in c.args.rules.now in
    let n = length us in
    let alike : take (few n) c.first_rules.result ≡ take (few n) us =
    ap (take (few n)) c.first_rules.ensures ∙ as_read (few n) MOST no_rule us (few_high n) (few_low n)
    in
    vetted c.beginning-said.result
    (read_so _ us c.first_rules.result alike (rw (as_many c.args.rules.now, ← c.opening.ensures) c.beginning-said.ensures))
