-- What is found of a record that is laid out; and that where no number comes before the table, the rows may be searched, and a word passes
-- exactly when it fits. Assumes nothing.
use mathlib.Core.Path.{◌≡◌, sym, ap, ◌∙◌, subst, subst₂}
use mathlib.Core.List.{List}
use Prim.Native.Nat.{ℕ, ◌≤◌}
use native.Mathlib.Omega.{arith}
use lib.ListN.{length-map, take}
use Rattle.word.specs.Word.{IsWidth, top}
use Rattle.rule.specs.declared.Rule.{Rule}
use Rattle.rule.specs.Meaning.{AllLawful, RULES, fits}
use Rattle.search.specs.declared.rows.InForce.{InForce}
use Rattle.search.specs.rows.route.Bands.{passes}
use Rattle.search.specs.rows.route.Rows.{band_in, bands_in}
use Rattle.search.proofs.rows.Passes.{passes-fits}
use Rattle.page.specs.Page.{rules_on}
use Rattle.page.proofs.Lawful.{reached_lawful}
use Rattle.sheet.specs.declared.slate.Head.{Head}
use Rattle.sheet.specs.slate.route.Held.{Drawn}
use Rattle.sheet.specs.slate.route.Numbers.{before}
use Rattle.sheet.proofs.slate.Holding.{Swept, drawn_so, swept}
use Rattle.sheet.specs.declared.Sheet.{Sheet}
use Rattle.sheet.specs.route.Held.{packed}
use Rattle.sheet.specs.route.Stands.{Standing, Stands}
use Rattle.sheet.proofs.Holding.{stands_so_lem}
use Rattle.sheet.proofs.Stands.{has_page, known, rules_lawful, width_of}
use Rattle.sheet.specs.laid_rows.route.Laid.{LaidIn}
use Rattle.sheet.specs.declared.laid_force.Found.{Found}
use Rattle.sheet.specs.laid_force.route.Found.{FoundIn}

-- what is in force by the head
abbrev in_force : Head → InForce
in_force h = record { count = h.counts.count; fixed = h.fixed; width = record { bits = h.opening.width } }

pub found_in : {s : Sheet} (h : Head) (rows : List (List ℕ)) → LaidIn s h rows → {n : ℕ} → n ≡ before h.stands h.opening.width
    → FoundIn s (record { number = n; force = in_force h }) rows
unfolding packed
found_in {s} h rows l e =
    record {
      stands = subst₂ Stands l.packs (sym e) (stands_so_lem l.held);
      places = l.held.room.rows_places;
      count = ap (λ (t : Sheet). t.count) l.packs;
      width = ap (λ (t : Sheet). t.width) l.packs;
      drawn = λ z.
          subst (λ (rs : List Rule). Drawn h.opening.width h.counts.count h.counts.count rs (bands_in rows) h.fixed)
          (ap (λ (t : Sheet). t.rules) l.packs) (drawn_so l.held (sym e ∙ z));
    }

module _ {s : Sheet} {r : Found} {rows : List (List ℕ)} (f : FoundIn s r rows) (e : r.number ≡ 0) where
  abbrev w : ℕ
  w = r.force.width.bits

  abbrev own : List Rule
  own = take r.force.count s.rules

  pub standing : Standing s
  standing = has_page f.stands e

  pub width_so : IsWidth w
  width_so = subst IsWidth (sym f.width) (width_of standing)

  lawful : AllLawful w own
  lawful = subst₂ (λ (v n : ℕ). AllLawful v (take n s.rules)) (sym f.width) (sym f.count) (rules_lawful standing)

  few : r.force.count ≤ RULES
  few = omega (arith, f.count, (known standing).count, (reached_lawful standing.reached).rules_fit)

  pub swept_so : Swept w r.force.count (bands_in rows) r.force.fixed
  swept_so = swept w _ _ _ s.rules width_so.low few (length-map rows band_in ∙ f.places) lawful (f.drawn e)

  -- the width and the rules of the page
  pub page_width : w ≡ standing.on.opening.width
  page_width = f.width ∙ (known standing).width

  page_rules : own ≡ rules_on standing.on.entries
  page_rules = ap (λ (n : ℕ). take n s.rules) f.count ∙ (known standing).rules

  -- a word of the width passes the bands and the bits exactly when it fits
  pub passes_so : (x : ℕ) → x ≤ top w
      → passes (take r.force.count (bands_in rows)) r.force.fixed x ≡ fits standing.on.opening.width (rules_on standing.on.entries) x
  passes_so x l =
      let d = f.drawn e in
      (λ i. passes (d.own i) (d.bits i) x) ∙ passes-fits w width_so.low own lawful x l ∙ (λ i. fits (page_width i) (page_rules i) x)
