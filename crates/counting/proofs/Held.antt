-- The ways out of a count: refused before the table, and counted. Assumes nothing.
use mathlib.Core.Path.{◌≡◌, refl, sym, ap, ◌∙◌, subst}
use mathlib.Core.List.{List}
use Prim.Native.Nat.{ℕ, suc, ◌^◌}
use native.Mathlib.Omega.{arith}
use lib.ListN.{take}
use Rattle.word.specs.Word.{top}
use Rattle.word.specs.Search.{count}
use Rattle.word.proofs.Widths.{top-suc}
use Rattle.rule.specs.Meaning.{fits}
use Rattle.search.specs.rows.route.Bands.{passes}
use Rattle.search.specs.rows.route.Rows.{bands_in}
use Rattle.page.specs.Calls.{first_that_applies, is_blank, rules_of}
use Rattle.page.specs.Page.{OpenPage, Page, entries_of, no_page, page, rules_on, width_of}
use Rattle.page.specs.Reached.{Reached, start}
use Rattle.sheet.specs.declared.Sheet.{Sheet}
use Rattle.sheet.specs.Record.{fresh}
use Rattle.sheet.specs.route.Stands.{Stands, blank_sheet, no_sheet, on_page}
use Rattle.sheet.proofs.OnePage.{one_page}
use Rattle.sheet.specs.declared.laid_force.Found.{Found}
use Rattle.sheet.specs.laid_force.route.Found.{FoundIn}
use Rattle.sheet.proofs.laid_force.Force.{page_width, passes_so, standing}
use Rattle.counting.specs.fitting.Words.{how_many}
use Rattle.counting.proofs.fitting.Passing.{count_same}
use Rattle.counting.specs.declared.Share.{Share}
use Rattle.counting.specs.Counted.{Counted, count_grounds, share_of}
use Rattle.counting.specs.Share.{shares}

-- what holds of the one page is all that is asked
counted_on : (pg : Page) → Reached pg → {s : Sheet} → s ≡ fresh pg → {r : Share} → r ≡ share_of pg → Counted s r
counted_on pg h {s} e {r} q =
    record {
      no_sheet = λ n. absurd (n (record { on = pg; reached = h; gives = e }));
      on_page = λ qg k d. subst (λ (t : Page). r ≡ share_of t) (one_page h k (sym e ∙ d)) q;
    }

-- refused before the table
pub refused_count : {s : Sheet} {n : ℕ} → Stands s n → (n ≡ 0 → ⊥) → Counted s (shares n 0)
unfolding share_of count_grounds first_that_applies is_blank
refused_count (no_sheet i) z =
    record { no_sheet = λ n. refl; on_page = λ pg h e. absurd (i (record { on = pg; reached = h; gives = e })) }
refused_count (blank_sheet e) z = counted_on no_page start e refl
refused_count (on_page p) z = absurd (z refl)

module _ {s : Sheet} {f : Found} {rows : List (List ℕ)} (found : FoundIn s f rows) (e : f.number ≡ 0) where
  abbrev w : ℕ
  w = f.force.width.bits

  abbrev on : OpenPage
  on = (standing found e).on

  many : count (passes (take f.force.count (bands_in rows)) f.force.fixed) (suc (top w)) 0 ≡ how_many on.opening.width (rules_on on.entries)
  unfolding how_many
  many =
      let fit = fits on.opening.width (rules_on on.entries) in
      count_same _ fit (suc (top w)) 0 (λ y a b. passes_so found e y (omega arith))
      ∙ ap (λ (k : ℕ). count fit k 0) (top-suc w ∙ ap (λ (v : ℕ). 2 ^ v) (page_width found e))

  pub tallied : Counted s (shares 0 (count (passes (take f.force.count (bands_in rows)) f.force.fixed) (suc (top w)) 0))
  unfolding share_of count_grounds first_that_applies is_blank width_of rules_of entries_of
  tallied = let p = standing found e in counted_on (page on) p.reached p.gives (ap (shares 0) many)
