-- What is found of a record and a list is the breach of the first clause that does not hold, and no other; and what the clauses say of the
-- table's lists, by computing. Assumes nothing.
use mathlib.Core.Path.{◌≡◌, refl}
use mathlib.Core.List.{List, map}
use Prim.Native.Nat.{ℕ}
use Rattle.std.specs.Prelude.{Err}
use Rattle.word.specs.declared.Edition.{Edition}
use Rattle.word.specs.declared.Edition.TheVariants.{New, Old}
use Rattle.word.specs.Edition.{same, terms}
use Rattle.word.specs.Word.{half, minus, plus, signed, top}
use Rattle.word.specs.Search.{first, last}
use Rattle.rule.specs.Meaning.{fits, meets, meets7, rows, written}
use Rattle.rule.specs.accept.Accept.{acceptable, bad_constant, bad_form, bad_sense, every, is_no_rule, refusal_of, rule_grounds, stray_bit}
use Rattle.rule.specs.accept.Grounds.{first_that_applies}
use Rattle.search.specs.verdict.Kept.{kept, verdict_of}
use Rattle.page.specs.Page.{marks_on, restored, rules_on}
use Rattle.page.specs.route.Shape.{marks_shaped, rising, rules_shaped}
use Rattle.sheet.specs.slate.route.Shape.{in_force, same_kept, stands_so, well_shaped}
use Rattle.sheet.specs.declared.Sheet.{Sheet}
use Rattle.sheet.specs.Record.{fresh}
use Rattle.sheet.specs.route.Shape.{is_sheet}
use Rattle.checker.specs.covering.Check.{all_of, every_word, links_in}
use Rattle.checker.specs.declared.finding.Breach.{Breach}
use Rattle.checker.specs.finding.Clauses.{first_broken, lie_clauses, list_clauses, reason_clauses, smallest, the_word}
use Rattle.checker.specs.finding.First.{IsFirst}
use Rattle.checker.proofs.finding.Broken.{is_first, only_first}
use Rattle.checker.specs.clause.Examples.{Example, examples}
use Rattle.checker.specs.clause.Finding.{clauses_of, finding}

module _ (s : Sheet) (ns : List ℕ) where
  pub the_first : (f : Breach) → finding s ns ≡ Err f → IsFirst (clauses_of s ns) f
  unfolding finding
  the_first f n = is_first (clauses_of s ns) f n

  pub no_second : (f : Breach) → IsFirst (clauses_of s ns) f → Err f ≡ finding s ns
  unfolding finding
  no_second f i = only_first (clauses_of s ns) f i

pub worked : (e : Edition) → map (λ (x : Example). finding x.sheet x.numbers) (examples e) ≡ map (λ (x : Example). x.finds) (examples e)
unfolding
    finding clauses_of first_broken list_clauses lie_clauses reason_clauses smallest the_word links_in every_word all_of is_sheet stands_so well_shaped in_force rules_shaped marks_shaped rising same_kept every is_no_rule acceptable refusal_of rule_grounds first_that_applies bad_form bad_sense bad_constant stray_bit kept verdict_of first last fits meets7 meets written rows fresh restored marks_on rules_on top half plus minus signed same terms
worked Old = refl
worked New = refl
