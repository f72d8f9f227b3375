-- `why` meets its contract: where nothing is refused each rule in force is lawful, so that it may be asked of its word. Assumes nothing.
use mathlib.Core.Path.{sym, subst}
use Prim.Native.Nat.{◌≤◌}
use native.Mathlib.Omega.{arith}
use lib.ListN.{length-take}
use Rattle.rule.specs.Meaning.{RULES}
use Rattle.page.proofs.Lawful.{reached_lawful}
use Rattle.sheet.specs.declared.Sheet.{Sheet}
use Rattle.sheet.specs.route.Stands.{Standing}
use Rattle.sheet.proofs.Stands.{known, rules_lawful, width_of}
use Rattle.listing.specs.blame_refusal.route.Seen.{blank, high_word, not_sheet, short_room}
use Rattle.listing.specs.blaming.Blamed.{Blamed}
use Rattle.listing.proofs.blaming.Ways.{is_standing, own_why, refused_why}
use Rattle.listing.proofs.blaming.why.Goals.{Else-sheet-eq0}
use Rattle.listing.proofs.blaming.why.Goals as goal

-- no more rules are in force than a sheet takes
few : {s : Sheet} → Standing s → s.count ≤ RULES
few p = let g = known p in omega (arith, g.count, (reached_lawful p.reached).rules_fit)

-- a sheet that is not blank
own : (c : Else-sheet-eq0) → Standing c.args.sheet
own c = is_standing c.is_sheet.ensures.variant c.if-not-is_sheet.false c.if-sheet-eq0.false

pub returns-then-not-is_sheet : goal.returns-then-not-is_sheet
returns-then-not-is_sheet c =
    subst (Blamed _ _ _ _) (sym c.refused.ensures) (refused_why c.is_sheet.ensures.variant _ (not_sheet c.if-not-is_sheet.true) (λ z. omega (arith, z)))

pub returns-then-sheet-eq0 : goal.returns-then-sheet-eq0
returns-then-sheet-eq0 c =
    subst (Blamed _ _ _ _) (sym c.refused-then-sheet-eq0.ensures)
    (refused_why c.is_sheet.ensures.variant _ (blank c.if-not-is_sheet.false c.if-sheet-eq0.true) (λ z. omega (arith, z)))

pub top-requires : goal.top-requires
top-requires c = width_of (own (goal.at.top-requires c).Else-sheet-eq0)

pub returns-then-is_high : goal.returns-then-is_high
returns-then-is_high c =
    subst (Blamed _ _ _ _) (sym c.refused-then-is_high.ensures)
    (refused_why c.is_sheet.ensures.variant _ (high_word c.if-not-is_sheet.false c.if-sheet-eq0.false (omega (arith, c.top.ensures, c.if-is_high.true))) (λ z. omega (arith, z)))

pub returns-then-is_short : goal.returns-then-is_short
returns-then-is_short c =
    subst (Blamed _ _ _ _) (sym c.refused-then-is_short.ensures)
    (refused_why c.is_sheet.ensures.variant _ (short_room c.if-not-is_sheet.false c.if-sheet-eq0.false (omega (arith, c.top.ensures, c.if-is_high.false)) (omega (arith, c.if-is_short.true))) (λ z. omega (arith, z)))

pub shared_ref_as_front-put_failed : goal.shared_ref_as_front-put_failed
shared_ref_as_front-put_failed c = few (own (goal.at.shared_ref_as_front-put_failed c).Else-sheet-eq0)

pub put_failed-written-requires : goal.put_failed-written-requires
put_failed-written-requires c =
    let p = own (goal.at.put_failed-written-requires c).Else-sheet-eq0 in
    let n = length-take c.args.sheet.count c.args.sheet.rules in
    record {
      width = width_of p;
      x_bound = (omega (arith, c.top.ensures, c.if-is_high.false), omega (arith, n, few p), rules_lawful p);
      n_in_bounds = omega (arith, n, c.if-is_short.false);
    }

pub returns : goal.returns
returns c =
    own_why (own (goal.at.returns c).Else-sheet-eq0) _ _ (omega (arith, c.top.ensures, c.if-is_high.false)) (omega (arith, c.if-is_short.false)) c.put_failed-written.ensures.value c.put_failed-written.ensures.out_after
