-- What the check says of the table's lists, by computing. Assumes nothing.
use mathlib.Core.Path.{◌≡◌, refl}
use mathlib.Core.List.{map}
use Rattle.word.specs.declared.Edition.{Edition}
use Rattle.word.specs.declared.Edition.TheVariants.{New, Old}
use Rattle.word.specs.Edition.{same, terms}
use Rattle.word.specs.Word.{half, minus, plus, signed, top}
use Rattle.word.specs.Search.{first, last}
use Rattle.rule.specs.Meaning.{fits, meets, meets7, rows, written}
use Rattle.rule.specs.accept.Accept.{acceptable, bad_constant, bad_form, bad_sense, every, is_no_rule, refusal_of, rule_grounds, stray_bit}
use Rattle.rule.specs.accept.Grounds.{first_that_applies}
use Rattle.search.specs.verdict.Kept.{kept, verdict_of}
use Rattle.sheet.specs.Record.{fresh}
use Rattle.page.specs.Page.{marks_on, restored, rules_on}
use Rattle.sheet.specs.slate.route.Shape.{in_force, same_kept, stands_so, well_shaped}
use Rattle.sheet.specs.route.Shape.{is_sheet}
use Rattle.page.specs.route.Shape.{marks_shaped, rising, rules_shaped}
use Rattle.checker.specs.covering.Check.{all_of, every_word, in_order, largest_end, links_in, names_bits, names_rule, no_gap, right_reason, shown, shown_by}
use Rattle.checker.specs.Check.{accepts}
use Rattle.checker.specs.Examples.{Example, examples}

pub worked : (e : Edition) → map (λ (x : Example). accepts x.sheet x.numbers) (examples e) ≡ map (λ (x : Example). x.answer) (examples e)
unfolding
    accepts shown_by shown no_gap largest_end right_reason names_bits names_rule in_order links_in every_word all_of is_sheet stands_so well_shaped in_force rules_shaped marks_shaped rising same_kept every is_no_rule acceptable refusal_of rule_grounds first_that_applies bad_form bad_sense bad_constant stray_bit kept verdict_of first last fits meets7 meets written rows fresh restored marks_on rules_on top half plus minus signed same terms
worked Old = refl
worked New = refl
