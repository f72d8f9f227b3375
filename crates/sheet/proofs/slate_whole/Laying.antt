-- Rows and marks that are empty have the room that laying out wants, and a slate that was laid out and tested stands for the value. Assumes
-- nothing.
use mathlib.Core.Path.{◌≡◌, refl, ap₂}
use mathlib.Core.List.{List, [], ◌∷◌, map}
use Prim.Native.Nat.{ℕ}
use lib.ListN.{replicate}
use Rattle.rule.specs.declared.Rule.{Rule}
use Rattle.rule.specs.Meaning.{RULES}
use Rattle.rule.specs.declared.bits.Fixed.TheVariants.{Bits}
use Rattle.search.specs.rows.route.Bands.{blank_band}
use Rattle.search.specs.rows.route.Rows.{bare_row, no_row, rules_in}
use Rattle.search.proofs.rows.Reading.{rule_of}
use Rattle.page.specs.Page.{MARKS}
use Rattle.sheet.specs.declared.slate.Head.{Head}
use Rattle.sheet.specs.slate.route.Held.{Room, found_to, head_of}
use Rattle.sheet.specs.declared.slate_whole.Whole.{Whole}
use Rattle.sheet.specs.slate_whole.route.Whole.{whole_of}

pub empty_room : Room (replicate RULES no_row) (replicate MARKS 0)
empty_room = record { rows_places = refl; marks_places = refl }

-- the rules of a record, laid out with no bands yet
pub rules_bare : (rs : List Rule) → rules_in (map bare_row rs) ≡ rs
unfolding bare_row
rules_bare [] = refl
rules_bare (r ∷ rs) = ap₂ ◌∷◌ (rule_of r blank_band) (rules_bare rs)

-- what the test finds of a head changes none of its numbers
pub laid_out : (v : Whole) {k : Head} (rows : List (List ℕ)) {marks : List ℕ} → k ≡ found_to (head_of v.opening v.counts v.kept (Bits 0 0)) k.stands k.fixed
    → rules_in rows ≡ v.rules → marks ≡ v.marks → whole_of k rows marks ≡ v
unfolding whole_of
laid_out v rows e r m = λ i. record { opening = (e i).opening; counts = (e i).counts; kept = (e i).kept; rules = r i; marks = m i }
