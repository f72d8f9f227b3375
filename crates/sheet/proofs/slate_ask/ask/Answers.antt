-- `ask` meets its contract: what is kept is what the rules give, so a chain is written just where no word fits. Assumes nothing.
use mathlib.Core.Path.{◌≡◌, sym, ap, ◌∙◌, subst}
use mathlib.Core.List.{List}
use Prim.Native.Nat.{◌≤◌}
use native.Mathlib.Omega.{arith}
use borrow.Author.Rules.{rules}
use lib.ListN.{take}
use Rattle.rule.specs.declared.Rule.{Rule}
use Rattle.rule.specs.Meaning.{RULES}
use Rattle.search.specs.declared.verdict.Kept.{Kept}
use Rattle.search.specs.verdict.Kept.{kept}
use Rattle.search.specs.rows.route.OfRules.{OfLawful}
use Rattle.search.specs.rows.route.Rows.{bands_in, rules_in}
use Rattle.sheet.specs.slate.route.Numbers.{before}
use Rattle.sheet.proofs.slate.Holding.{bands_places, drawn_so, kept_so, lawful_so, swept, waits_so, width_so}
use Rattle.sheet.specs.slate.stepping.route.Steps.Refused.{before_first, own_ground}
use Rattle.sheet.specs.slate_ask.route.Asks.{Asks}
use Rattle.sheet.specs.slate_ask.route.Asks.Asks.{none_fits, some_fit, unasked}
use Rattle.sheet.proofs.slate_ask.ask.Goals.{Else-number-ne0}
use Rattle.sheet.proofs.slate_ask.ask.Goals as goal

none : (a : Else-number-ne0) → before a.args.head.stands a.args.head.opening.width ≡ 0
none a = sym a.refuses-number.ensures ∙ a.if-number-ne0.false

few : (a : Else-number-ne0) → a.args.head.counts.count ≤ RULES
few a = let w = waits_so a.requires.1 (none a) in omega (arith, w.given_low, w.given_high)

abbrev rs : Else-number-ne0 → List Rule
rs a = take a.args.head.counts.count (rules_in a.args.rows.now)

-- the rules that the bands and the bits are those of
of-rules : (a : Else-number-ne0) → OfLawful a.args.head.opening.width (take a.args.head.counts.count (bands_in a.args.rows.now)) a.args.head.fixed (rs a)
of-rules a = (lawful_so a.requires.1 (none a), drawn_so a.requires.1 (none a))

no_word : (a : Else-number-ne0) → a.args.head.kept.verdict ≡ 0 → (kept a.args.head.opening.width (rs a)).verdict ≡ 0
no_word a e = sym (ap (λ (k : Kept). k.verdict) (kept_so a.requires.1 (none a))) ∙ e

pub returns-then-number-ne0 : goal.returns-then-number-ne0
returns-then-number-ne0 c = subst (Asks _ _ _ _) (sym c.refusal.ensures) (unasked (before_first c.refuses-number.ensures c.if-number-ne0.true))

pub room-requires : goal.room-requires
room-requires c = few (goal.at.room-requires c).Else-number-ne0

pub returns-then-out-room : goal.returns-then-out-room
returns-then-out-room c =
    subst (Asks _ _ _ _) (sym c.refusal-then-out-room.ensures) (unasked (own_ground (none (goal.at.returns-then-out-room c).Else-number-ne0) (omega (arith, c.room.ensures, c.if-out-room.true))))

pub returns-then-fits : goal.returns-then-fits
returns-then-fits c =
    some_fit (none (goal.at.returns-then-fits c).Else-number-ne0) (omega (arith, c.room.ensures, c.if-out-room.false)) c.if-fits.true

pub write-links-requires : goal.write-links-requires
write-links-requires c =
    let t = swept c.args.head.opening.width c.args.head.counts.count _ _ (rules_in c.args.rows.now) (width_so c.requires.1 (none (goal.at.write-links-requires c).Else-number-ne0)).low (few (goal.at.write-links-requires c).Else-number-ne0) (bands_places c.requires.1.room) (lawful_so c.requires.1 (none (goal.at.write-links-requires c).Else-number-ne0)) (drawn_so c.requires.1 (none (goal.at.write-links-requires c).Else-number-ne0)) in record { width = width_so c.requires.1 (none (goal.at.write-links-requires c).Else-number-ne0); lie = t.lie; of_lawful = (rs (goal.at.write-links-requires c).Else-number-ne0, of-rules (goal.at.write-links-requires c).Else-number-ne0, no_word (goal.at.write-links-requires c).Else-number-ne0 c.if-fits.false); n_in_bounds = omega (arith, c.room.ensures, c.if-out-room.false) }

pub returns : goal.returns
returns c =
    let d = c.write-links.ensures (rs (goal.at.returns c).Else-number-ne0) (of-rules (goal.at.returns c).Else-number-ne0) (no_word (goal.at.returns c).Else-number-ne0 c.if-fits.false) in
    none_fits (none (goal.at.returns c).Else-number-ne0) (omega (arith, c.room.ensures, c.if-out-room.false)) c.if-fits.false d.0 d.1
