-- A section of words from p on, by search. A route: which way the bands take a word is said elsewhere, and that every word of a section
-- goes as its first is proved (proofs/section/Alike.antt).
use Rattle.std.specs.Prelude.{Bool, true, false, cond, List, ℕ, ◌-◌}
use Rattle.word.specs.Search.{climb}
use Rattle.rule.specs.declared.band.Band.{Band}
use Rattle.rule.specs.band.route.Band.{all_hold, holds}
use Rattle.search.specs.declared.section.Section.{Section}
use Rattle.search.specs.section.route.Sides.{first_failing, some_fails}

abbrev pub section : Bool → ℕ → Section
section held to = record { held = held; to = to }

-- where all bands hold p, up to the last word before one fails; else as far as the first band that fails p goes on failing. No word
-- is above the top word t.
unfoldable pub section_at : (t : ℕ) → List Band → (p : ℕ) → Section
section_at t bs p =
    cond (all_hold bs p) (section true (climb (some_fails bs) (t - p) p)) (section false (climb (holds (first_failing bs p)) (t - p) p))
