-- What a step back and a step forward on a slate do, said of head, rows and marks alone: no rule and no mark moves. A route: what a call must
-- do is said of the record that they stand for, and that this does it is proved where the record stands (sheet: proofs/SteppedBack.antt,
-- SteppedForward.antt).
use Rattle.std.specs.Prelude.{◌≡◌, List, ℕ, ◌+◌, ◌-◌, get_or, take}
use Rattle.rule.specs.declared.bits.Fixed.{Fixed}
use Rattle.search.specs.rows.route.Rows.{rules_in}
use Rattle.search.specs.declared.verdict.Kept.{Kept}
use Rattle.search.specs.verdict.Kept.{kept}
use Rattle.sheet.specs.declared.slate.Head.{Head}
use Rattle.sheet.specs.slate.route.Held.{Beside, counted, head_of}
use Rattle.sheet.specs.slate.route.Numbers.{before}
use Rattle.sheet.specs.slate.route.Shape.{in_force}

-- why a call with one number of its own is refused: by what comes before the table, or on its own ground
pub data Refused (h : Head) (own : ℕ) (Ground : Type 0) : ℕ → Type 0 where
  before_first : {n : ℕ} → n ≡ before h.stands h.opening.width → (n ≡ 0 → ⊥) → Refused h own Ground n
  own_ground : before h.stands h.opening.width ≡ 0 → Ground → Refused h own Ground own

-- the head with n rules and m marks in force, and v stretches that wait
abbrev pub moved_head : Head → (n m v : ℕ) → Kept → Fixed → Head
moved_head h n m v k f = head_of h.opening (counted n m h.counts.given v) k f

-- how many rules a step back leaves: as many as the newest mark notes
abbrev pub leaves : Head → List ℕ → ℕ
leaves h marks = get_or marks (h.counts.marked - 1) 0

-- the head after an accepted step back
abbrev pub back_head : Head → List ℕ → Kept → Fixed → Head
back_head h marks k f = moved_head h (leaves h marks) (h.counts.marked - 1) (h.counts.waiting + 1) k f

pub data Backs (h : Head) (rows : List (List ℕ)) (marks : List ℕ) : ℕ → Head → Type 0 where
  stays : {n : ℕ} → Refused h 8 (h.counts.marked ≡ 0) n → Backs h rows marks n h
  goes_back : (k : Kept) (f : Fixed) → before h.stands h.opening.width ≡ 0 → (h.counts.marked ≡ 0 → ⊥) → Beside (back_head h marks k f) rows
      → k ≡ kept h.opening.width (take (leaves h marks) (rules_in rows)) → Backs h rows marks 0 (back_head h marks k f)

-- how many rules are in force after a step forward
abbrev pub brings : Head → List ℕ → ℕ
brings h marks = in_force h.counts.given marks (h.counts.marked + 1) (h.counts.waiting - 1)

-- the head after a step forward that brings n rules in force
abbrev pub forward_head : Head → ℕ → Kept → Fixed → Head
forward_head h n k f = moved_head h n (h.counts.marked + 1) (h.counts.waiting - 1) k f

pub data Forwards (h : Head) (rows : List (List ℕ)) (marks : List ℕ) : ℕ → Head → Type 0 where
  remains : {n : ℕ} → Refused h 12 (h.counts.waiting ≡ 0) n → Forwards h rows marks n h
  goes_on : (n : ℕ) (k : Kept) (f : Fixed) → before h.stands h.opening.width ≡ 0 → (h.counts.waiting ≡ 0 → ⊥) → n ≡ brings h marks
      → Beside (forward_head h n k f) rows → k ≡ kept h.opening.width (take n (rules_in rows))
      → Forwards h rows marks 0 (forward_head h n k f)
