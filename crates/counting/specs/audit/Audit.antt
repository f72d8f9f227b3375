-- The two facts of K14, in the auditors' words, of what the calls answer.
use Rattle.std.specs.Prelude.{◌≡◌, List, [], ◌∷◌, map, ℕ, ◌≤◌, length}
use Rattle.word.specs.declared.Edition.{Edition}
use Rattle.rule.specs.declared.Rule.{Rule}
use Rattle.search.specs.declared.verdict.Kept.{Kept}
use Rattle.page.specs.declared.Opening.{Opening}
use Rattle.page.specs.Calls.{Call, add, open_at}
use Rattle.sheet.specs.declared.slate_ask.Reply.{Reply}
use Rattle.sheet.specs.declared.Sheet.{Sheet}
use Rattle.sheet.specs.Statements.{Asked}
use Rattle.counting.specs.declared.Share.{Share}
use Rattle.counting.specs.Share.{together}
use Rattle.counting.specs.Counted.{Counted}

-- "Adding .. rules to a fresh sheet": an opening, and then each rule, in the opening's own edition, the first one first
unfoldable pub opened_and_given : Opening → List Rule → List Call
opened_and_given g rs = open_at g ∷ map (add g.edition) rs

-- The same calls, but for the order of adds with no other call between them: two that follow one another change places, as often as one
-- likes. So marks, and whatever else is called, stay where they are, and the rules between them come in another order.
pub data Reordered : List Call → List Call → Type 0 where
  none : Reordered [] []
  same : {cs ds : List Call} (c : Call) → Reordered cs ds → Reordered (c ∷ cs) (c ∷ ds)
  swapped : {cs ds : List Call} (e d : Edition) (r u : Rule) → Reordered cs ds → Reordered (add e r ∷ add d u ∷ cs) (add d u ∷ add e r ∷ ds)
  and_then : {bs cs ds : List Call} → Reordered bs cs → Reordered cs ds → Reordered bs ds

-- "never changes the verdict, smallest, largest or count": whatever accepted askings of the two sheets say, and whatever countings; and with
-- buffers of one length both askings are accepted, or neither
pub record SameFound (s t : Sheet) : Type 0 where
  pub number : {b b' d d' : List ℕ} {r q : Reply} → Asked s b b' r → Asked t d d' q → length b ≡ length d → r.number ≡ q.number
  pub kept : {b b' d d' : List ℕ} {r q : Reply} → Asked s b b' r → Asked t d d' q → r.number ≡ 0 → q.number ≡ 0 → r.kept ≡ q.kept
  pub count : {c d : Share} → Counted s c → Counted t d → c ≡ d

-- what was kept, and what is kept with a rule more: "never .. lowers the smallest or raises the largest while words still fit, and never
-- turns "none" into another verdict"
pub record Narrower (before now : Kept) : Type 0 where
  pub smallest : (now.verdict ≡ 0 → ⊥) → before.smallest ≤ now.smallest
  pub largest : (now.verdict ≡ 0 → ⊥) → now.largest ≤ before.largest
  pub none_stays : before.verdict ≡ 0 → now.verdict ≡ 0

-- the same of accepted askings of a sheet and of that with the rule; and "never raises the count"
pub record Narrowed (s t : Sheet) : Type 0 where
  pub kept : {b b' d d' : List ℕ} {r q : Reply} → Asked s b b' r → Asked t d d' q → r.number ≡ 0 → q.number ≡ 0 → Narrower r.kept q.kept
  pub count : {c d : Share} → Counted s c → Counted t d → together d ≤ together c
