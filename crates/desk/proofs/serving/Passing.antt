-- What a feeding uses of the rest of a part goes in after what went in before. Assumes nothing.
use mathlib.Core.Path.{sym, subst}
use mathlib.Core.List.{List, ◌++◌}
use Prim.Native.Nat.{ℕ, ◌+◌, ◌-◌}
use lib.ListN.{drop, length, take}
use lib.Seq.{take-add}
use Rattle.frame.specs.exchange.route.Desk.{Desk}
use Rattle.frame.specs.exchange.route.Statements.{Feeds, Takes}
use Rattle.frame.proofs.exchange.Cut.{feeds_takes, takes_on}
use Rattle.coming.proofs.Rest.{rest}
use Rattle.desk.specs.serving.Passed.{Passed}

pub passed_on : {d e f : Desk} (part : List ℕ) (at : ℕ) {m n : ℕ} {o : List ℕ} → Passed d (take at part) e
    → Feeds m e (take (length part - at) (drop at part)) f n o → Passed d (take (at + n) part) f
passed_on {d} {f} part at {n} {o} p q =
    record {
      bytes = p.bytes ++ o;
      takes =
          subst (λ (l : List ℕ). Takes d l f (p.bytes ++ o)) (sym (take-add at n part))
          (takes_on p.takes (feeds_takes (rw (rest part at) at q)));
    }
