-- `alone` meets its contract: the first row has the rule's band, the bits are those that it fixes, and a list of one rule is fit by just the
-- words that meet it. Assumes nothing.
use mathlib.Core.Path.{◌≡◌, refl, sym, ap, ◌∙◌, subst}
use mathlib.Core.List.{[], ◌∷◌}
use lib.ListN.{replicate, set, take}
use Rattle.rule.specs.Meaning.{RULES}
use Rattle.rule.specs.declared.band.Band.{Band}
use Rattle.rule.specs.band.route.Band.{band_of}
use Rattle.rule.specs.declared.bits.Fixed.{Fixed}
use Rattle.rule.specs.bits.route.Fixed.{Tidy}
use Rattle.search.specs.rows.route.Bands.{passes}
use Rattle.search.specs.rows.route.Rows.{bands_in, no_row, row_of}
use Rattle.picture.specs.shade.Cell.{cell_of}
use Rattle.picture.proofs.Drawn.{alone_lies, alone_of, alone_tidy, by_fits, by_meets}
use Rattle.picture.proofs.alone.Goals.{After-put}
use Rattle.picture.proofs.alone.Goals as goal

-- the rows that have the rule's own band in the first
laid : (p : After-put) → p.put.new.rows ≡ set (replicate RULES no_row) 0 (row_of p.args.rule (band_of p.args.width.bits p.args.rule))
laid p =
    p.put.ensures ∙ ap (λ (b : Band). set (replicate RULES no_row) 0 (row_of p.args.rule b)) p.of-band.ensures

pub stretch-requires : goal.stretch-requires
stretch-requires c = record { width = c.requires.width; lie = alone_lies _ c.requires.width c.args.rule c.requires.lawful.0 (replicate RULES no_row) _ refl (laid (goal.at.stretch-requires c).After-put); tidy = (subst Tidy (sym c.with.ensures) (alone_tidy c.args.rule), c.requires.lawful.1, c.requires.lawful.2) }

pub returns : goal.returns
returns c =
    c.stretch.ensures
    ∙ ap (λ (f : Fixed). cell_of (passes (take 1 (bands_in c.put.new.rows)) f) c.args.words.from c.args.words.to) c.with.ensures
    ∙ by_fits _ c.requires.width.low _ _ (c.args.rule ∷ []) (alone_of _ c.requires.width c.args.rule c.requires.lawful.0 (replicate RULES no_row) _ refl (laid (goal.at.returns c).After-put)) c.args.words.from c.args.words.to c.requires.lawful.2
    ∙ by_meets c.args.width.bits c.args.rule c.args.words.from c.args.words.to
