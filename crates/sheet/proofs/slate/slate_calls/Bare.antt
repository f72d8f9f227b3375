-- What is left once what waited is taken away, or all is: as many places as before, and the rules in force are the first of them, with
-- their bands and notes. Assumes nothing.
use mathlib.Core.Path.{◌≡◌, sym, ap, ◌∙◌}
use mathlib.Core.List.{List, map, ◌++◌}
use Prim.Native.Nat.{ℕ, ◌-◌}
use native.Mathlib.Omega.{arith}
use lib.ListN.{drop, length, length-append, length-map, length-replicate, length-set, replicate, set, take}
use lib.Seq.{length-take-le, take_at}
use Rattle.rule.specs.declared.Rule.{Rule}
use Rattle.rule.specs.Meaning.{RULES}
use Rattle.rule.specs.accept.Accept.{no_rule}
use Rattle.rule.specs.band.route.Band.{band_of}
use Rattle.rule.specs.bits.route.Fixed.{fixed_bits}
use Rattle.search.specs.rows.route.Rows.{band_in, bands_in, no_row, rule_in, rules_in}
use Rattle.page.specs.Page.{MARKS}
use Rattle.sheet.specs.declared.slate.Head.{Head}
use Rattle.sheet.specs.slate.route.Held.{Drawn, Held, Room, bare_marks, bare_rows}
use Rattle.sheet.specs.slate.route.Notes.{Notes}
use Rattle.sheet.specs.slate.route.Numbers.{before}
use Rattle.sheet.proofs.slate.Cleared.{emptied, rules_cleared, take-map}
use Rattle.sheet.proofs.slate.Holding.{beside_so, drawn_so, low_so, waits_so, width_so}
use Rattle.sheet.proofs.slate.Noted.{first_noted}
use Rattle.sheet.specs.slate.slate_calls.route.Done.{bare_rules}

-- as many rows as rules
rows_long : (rows : List (List ℕ)) (rs : List Rule) → rules_in rows ≡ rs → length rs ≡ RULES → length rows ≡ RULES
rows_long rows rs e places = sym (length-map rows rule_in) ∙ ap length e ∙ places

pub room_opened : {rows : List (List ℕ)} {marks : List ℕ} → rules_in rows ≡ replicate RULES no_rule → marks ≡ replicate MARKS 0 → Room rows marks
room_opened {rows} emptied unmarked =
    record {
      rows_places = rows_long rows (replicate RULES no_rule) emptied (length-replicate RULES no_rule);
      marks_places = ap length unmarked ∙ length-replicate {A = ℕ} MARKS 0;
    }

module _ {h : Head} {rows : List (List ℕ)} {marks : List ℕ} (held : Held h rows marks) (e : before h.stands h.opening.width ≡ 0) where
  rules_size : length (take h.counts.count (rules_in rows)) ≡ h.counts.count
  rules_size = let w = waits_so held e in length-take-le h.counts.count (rules_in rows) (omega (arith, w.given_low, w.given_high, w.rules_places))

  pub bare_places : length (bare_rules h rows) ≡ RULES
  bare_places =
      let w = waits_so held e in
      omega (arith, w.given_low, w.given_high, rules_size, length-append (take h.counts.count (rules_in rows)) (replicate (RULES - h.counts.count) no_rule), length-replicate (RULES - h.counts.count) no_rule)

  pub rules_first : take h.counts.count (bare_rules h rows) ≡ take h.counts.count (rules_in rows)
  rules_first = take_at (take h.counts.count (rules_in rows)) (replicate (RULES - h.counts.count) no_rule) h.counts.count rules_size

  marks_bare : length (bare_marks h marks) ≡ MARKS
  marks_bare =
      let w = waits_so held e in
      let size = length-take-le h.counts.marked marks (omega (arith, w.marks_high, w.marks_places)) in
      omega (arith, w.marks_high, size, length-append (take h.counts.marked marks) (replicate (MARKS - h.counts.marked) 0), length-replicate {A = ℕ} (MARKS - h.counts.marked) 0)

  -- the rows themselves: the first stay, with their bands and notes
  pub bare_rules_lem : rules_in (bare_rows h rows) ≡ bare_rules h rows
  bare_rules_lem =
      let w = waits_so held e in
      emptied (rules_in rows) _ h.counts.count h.counts.given RULES no_rule w.given_low w.given_high (rules_cleared rows h.counts.count h.counts.given) w.rules_after

  pub bare_long : length (bare_rows h rows) ≡ RULES
  bare_long = rows_long (bare_rows h rows) (bare_rules h rows) bare_rules_lem bare_places

  rows_first : take h.counts.count (bare_rows h rows) ≡ take h.counts.count rows
  rows_first =
      let w = waits_so held e in
      take_at (take h.counts.count rows) (replicate (h.counts.given - h.counts.count) no_row ++ drop h.counts.given rows) h.counts.count
      (length-take-le h.counts.count rows (omega (arith, w.given_low, w.given_high, held.room.rows_places)))

  pub bare_drawn : Drawn h.opening.width h.counts.count h.counts.count (rules_in (bare_rows h rows)) (bands_in (bare_rows h rows)) h.fixed
  bare_drawn =
      let d = drawn_so held e in
      let rules_too = ap (take h.counts.count) bare_rules_lem ∙ rules_first in
      let bands_too = take-map band_in h.counts.count (bare_rows h rows) ∙ ap bands_in rows_first ∙ sym (take-map band_in h.counts.count rows) in
      record { own = bands_too ∙ d.own ∙ ap (map (band_of h.opening.width)) (sym rules_too); bits = d.bits ∙ ap fixed_bits (sym rules_too) }

  pub bare_noted : Notes h.opening.width h.counts.count (bare_rows h rows)
  bare_noted = first_noted h.opening.width (width_so held e).low h.counts.given rows (beside_so held e).noted h.counts.count (bare_rows h rows) (low_so held e) rows_first

  module _ {rows' : List (List ℕ)} {marks' : List ℕ} where
    pub room_added : (u : Rule) → rules_in rows' ≡ set (bare_rules h rows) h.counts.count u → marks' ≡ bare_marks h marks → Room rows' marks'
    room_added u put unmarked =
        record {
          rows_places = rows_long rows' (set (bare_rules h rows) h.counts.count u) put (length-set (bare_rules h rows) h.counts.count u ∙ bare_places);
          marks_places = ap length unmarked ∙ marks_bare;
        }

    pub room_marked : rules_in rows' ≡ bare_rules h rows → marks' ≡ set (bare_marks h marks) h.counts.marked h.counts.count → Room rows' marks'
    room_marked emptied noted =
        record {
          rows_places = rows_long rows' (bare_rules h rows) emptied bare_places;
          marks_places = ap length noted ∙ length-set (bare_marks h marks) h.counts.marked h.counts.count ∙ marks_bare;
        }
