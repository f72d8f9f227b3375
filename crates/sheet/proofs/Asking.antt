-- Asking on a slate is asking its record: each way out is one of those that asking has. Assumes nothing.
use mathlib.Core.Path.{sym, subst}
use mathlib.Core.List.{List}
use Prim.Native.Nat.{ℕ}
use Rattle.sheet.specs.declared.slate.Head.{Head}
use Rattle.sheet.specs.slate.route.Held.{Held}
use Rattle.sheet.specs.slate.stepping.route.Steps.Refused.{before_first, own_ground}
use Rattle.sheet.specs.declared.slate_ask.Reply.{Reply}
use Rattle.sheet.specs.slate_ask.route.Asks.{Asks}
use Rattle.sheet.specs.slate_ask.route.Asks.Asks.{none_fits, some_fit, unasked}
use Rattle.sheet.specs.route.Held.{packed}
use Rattle.sheet.specs.route.Stands.{Stands}
use Rattle.sheet.specs.Statements.{Asked}
use Rattle.sheet.proofs.Holding.{on_sheet, stands_so_lem}
use Rattle.sheet.proofs.WaysOfAsking.{chain_asking, kept_asking, refused_asking, short_asking}

pub ask_after : {h : Head} {rows : List (List ℕ)} {marks : List ℕ} → Held h rows marks → {b b' : List ℕ} {r : Reply} → Asks h rows b b' r
    → Asked (packed h rows marks) b b' r
unfolding packed
ask_after held {b} (unasked (before_first e z)) = refused_asking (subst (Stands _) (sym e) (stands_so_lem held)) z b
ask_after held {b} (unasked (own_ground e short)) = short_asking (on_sheet held e) b short
ask_after held {b} (some_fit e room z) = kept_asking (on_sheet held e) b room z
ask_after held {b} (none_fits e room z count laid) = chain_asking (on_sheet held e) b room z count laid
