-- The worked cases that 01 marks P get the numbers of their table, in either edition, by computing: each call is accepted, but for the
-- add of case 9. Assumes nothing.
use mathlib.Core.Path.{◌≡◌, refl}
use mathlib.Core.Bool.{true, false}
use mathlib.Core.List.{List, [], ◌∷◌, map}
use Prim.Native.Nat.{ℕ}
use lib.Dec.{eqb}
use Rattle.word.specs.declared.Edition.{Edition}
use Rattle.word.specs.declared.Edition.TheVariants.{New, Old}
use Rattle.word.specs.Edition.{same, terms}
use Rattle.word.specs.Word.{top}
use Rattle.rule.specs.accept.Accept.{bad_constant, bad_form, bad_sense, rule_grounds, stray_bit}
use Rattle.chain.specs.Cases.{Case, cases}
use Rattle.page.specs.Calls.{Call, add, after, changed, first_that_applies, grounds, is_blank, open_at, refusal, rules_of, written}
use Rattle.page.specs.Page.{Page, at_width, edition_of, entries_of, no_page, rules_on, width_of}

-- opening at the case's width in an edition, and each of its adds
abbrev pub case_calls : Edition → Case → List Call
case_calls e c = open_at (at_width c.width e) ∷ map (add e) c.rules

-- the first number that calls get, 0 where all are accepted
unfoldable pub first_number : Page → List Call → ℕ
first_number pg [] = 0
first_number pg (c ∷ cs) = elim (eqb (refusal pg c) 0) [ true ↦ first_number (after pg c) cs | false ↦ refusal pg c ]

pub cases_answered : (e : Edition) → map (λ (c : Case). first_number no_page (case_calls e c)) cases ≡ map (λ (c : Case). c.number) cases
unfolding
    first_number refusal grounds rule_grounds first_that_applies is_blank bad_form bad_sense bad_constant stray_bit top after written changed same terms edition_of rules_of width_of entries_of rules_on
cases_answered Old = refl
cases_answered New = refl
