-- Rows whose bands are drawn have the rules that they had and, where these are lawful, their bands; a rule read past what is drawn is as it was.
-- Assumes nothing.
use Rattle.std.proofs.Common.{◌≡◌, ℕ, zero, suc, List, [], ◌∷◌, map, length, take, refl, ap, ap₂}
use Rattle.word.specs.Word.{IsWidth}
use Rattle.rule.specs.Meaning.{AllLawful}
use Rattle.rule.specs.band.route.Band.{band_of}
use Rattle.search.specs.rows.route.Rows.{bands_in, drawn, drawn_row, rule_in, rules_in}
use Rattle.search.proofs.rows.Reading.{own_of, rule_of}

module _ (w : ℕ) where
  pub drawn-length : (n : ℕ) (rows : List (List ℕ)) → length (drawn w n rows) ≡ length rows
  unfolding drawn
  drawn-length zero rows = refl
  drawn-length (suc n) [] = refl
  drawn-length (suc n) (row ∷ rows) = ap suc (drawn-length n rows)

  pub drawn_rules : (n : ℕ) (rows : List (List ℕ)) → rules_in (drawn w n rows) ≡ rules_in rows
  unfolding drawn drawn_row
  drawn_rules zero rows = refl
  drawn_rules (suc n) [] = refl
  drawn_rules (suc n) (row ∷ rows) = ap₂ ◌∷◌ (rule_of (rule_in row) (band_of w (rule_in row))) (drawn_rules n rows)

  pub drawn_bands : IsWidth w → (n : ℕ) (rows : List (List ℕ)) → AllLawful w (take n (rules_in rows))
      → take n (bands_in (drawn w n rows)) ≡ map (band_of w) (take n (rules_in rows))
  unfolding drawn drawn_row AllLawful
  drawn_bands width zero rows l = refl
  drawn_bands width (suc n) [] l = refl
  drawn_bands width (suc n) (row ∷ rows) l = ap₂ ◌∷◌ (own_of w width (rule_in row) l.0) (drawn_bands width n rows l.1)
