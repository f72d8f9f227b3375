-- `meets` meets its contract: what is not refused is tested. Assumes nothing.
use mathlib.Core.Path.{sym, ap, ◌∙◌}
use Rattle.rule.specs.declared.Rule.{Rule}
use Rattle.rule.specs.Meaning.{meets}
use Rattle.outside.specs.handing.Handed.{weigh_number}
use Rattle.outside.proofs.on_rules.Rules.{fair, refused_word, weighed_word}
use Rattle.outside.proofs.on_rules.meets.Goals as goal

pub meets-requires : goal.meets-requires
meets-requires c =
    let whole = fair _ _ _ c.in-Ok.ensures.1 in
    record { width = rw c.in-Ok.ensures.0 whole.0; x_bound = rw c.in-Ok.ensures.0 whole.1 }

pub returns-in-Ok : goal.returns-in-Ok
returns-in-Ok c =
    let told = ap (λ (u : Rule). weigh_number c.args.width u c.args.word) (sym c.rule_in-asked.ensures) ∙ c.in-Ok.ensures.1 in record {
      value = sym told;
      meets_after = weighed_word _ _ _ told _ (c.meets.ensures ∙ (λ k. meets (c.in-Ok.ensures.0 k) (c.rule_in-asked.ensures k) c.args.word));
    }

pub returns-in-Err : goal.returns-in-Err
returns-in-Err c =
    let told = c.in-Err.ensures.0 ∙ ap (λ (u : Rule). weigh_number c.args.width u c.args.word) c.rule_in-asked.ensures in
    record { value = told; meets_after = refused_word _ _ _ (λ z. c.in-Err.ensures.1 (told ∙ z)) }
