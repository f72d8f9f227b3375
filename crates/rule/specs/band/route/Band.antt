-- A rule laid on the wheel of words. This is a route and no meaning: that a word is on the holding side of a rule's band
-- exactly when it meets the rule is proved (proofs/band/Law.antt).
use Rattle.std.specs.Prelude.{◌≡◌, ℕ, suc, ◌-◌, ◌≤◌, Bool, true, false, cond, not, ◌&&◌, ◌||◌, List, [], ◌∷◌, ◌==◌, nat_le, slice_index_or}
use Rattle.word.specs.Word.{top, half, plus, minus}
use Rattle.rule.specs.declared.Rule.{Rule}
use Rattle.rule.specs.declared.band.Band.{Band}

-- x is met on the way up from a to b, round past the top word where b is below a
unfoldable pub within : (a b x : ℕ) → Bool
within a b x = cond (nat_le a b) (nat_le a x && nat_le x b) (nat_le x b || nat_le a x)

-- x is on the side that does not fail
unfoldable pub holds : Band → ℕ → Bool
holds b x = cond b.inside (not (within b.from b.to x)) (within b.from b.to x)

-- the band that holds the words from a to b: those outside fail
abbrev pub span : ℕ → ℕ → Band
span a b = record { from = a; to = b; inside = false }

-- the whole wheel, from 0 to the top word t: where the inside fails every word does, and else none
abbrev pub wheel : (t : ℕ) (inside : Bool) → Band
wheel t inside = record { from = 0; to = t; inside = inside }

-- settled, the row of form 8: the words from c1 + c2 to c1 + half - 1; where c2 is half or more there are none, and all fail
unfoldable pub settled_band : (w c1 c2 : ℕ) → Band
settled_band w c1 c2 = cond (nat_le (half w) c2) (wheel (top w) true) (span (plus w c1 c2) (plus w c1 (half w - 1)))

-- The table, a row for each form: the band of a rule as written. Form 7 is no arc, and is left to the fixed bits.
unfoldable pub written_bands : (w c1 c2 : ℕ) → List Band
written_bands w c1 c2 =
    span 0 (top w)
    ∷ span (minus w 0 c1) (minus w (top w) c2)
    ∷ span (minus w c1 c2) (minus w (top w) c2)
    ∷ span (minus w 0 c1) (minus w c2 c1)
    ∷ span (half w) c1
    ∷ span c1 (half w - 1)
    ∷ span c1 c1
    ∷ span 0 (top w)
    ∷ settled_band w c1 c2
    ∷ []

unfoldable pub written_band : ℕ → Rule → Band
written_band w r = slice_index_or (written_bands w r.c1 r.c2) r.form (span 0 (top w))

-- a whole wheel, wherever it starts, is written from 0 to the top word
unfoldable pub seamless : ℕ → Band → Band
seamless w b = cond (minus w b.to b.from == top w) (wheel (top w) b.inside) b

-- the band where the other side fails
abbrev pub other_side : Band → Band
other_side b = record { from = b.from; to = b.to; inside = not b.inside }

-- the sense turns it: "0 as written, 1 negated"
unfoldable pub by_sense : ℕ → Band → Band
by_sense s b = cond (s == 0) b (other_side b)

-- the rule's band
unfoldable pub band_of : ℕ → Rule → Band
band_of w r = by_sense r.sense (seamless w (written_band w r))

-- what a run asks of a band: its ends are words, and it is no whole wheel with a seam
pub record Laid (t : ℕ) (b : Band) : Type 0 where
  pub from_word : b.from ≤ t
  pub to_word : b.to ≤ t
  pub no_seam : suc b.to ≡ b.from → ⊥

-- the band on the wheel of words turned round, x to the top word less x
unfoldable pub turned_band : ℕ → Band → Band
turned_band t b = record { from = t - b.to; to = t - b.from; inside = b.inside }

-- every band of the list is so laid
unfoldable pub AllLaid : ℕ → List Band → Type 0
AllLaid t [] = Unit {0}
AllLaid t (b ∷ bs) = Laid t b × AllLaid t bs

-- every band of the list holds the word x
unfoldable pub all_hold : List Band → ℕ → Bool
all_hold [] x = true
all_hold (b ∷ bs) x = holds b x && all_hold bs x
