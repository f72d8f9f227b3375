-- `find` meets its contract: a note that is known is so, and else what is found on the bands is what the rules give. Assumes nothing.
use mathlib.Core.Path.{sym, ap, ◌∙◌, subst}
use lib.ListN.{length-map, take}
use Rattle.rule.specs.declared.bits.Fixed.{Fixed}
use Rattle.search.specs.rows.route.Rows.{band_in, bands_in, rules_in}
use Rattle.search.specs.verdict.route.OnBands.{Bounds}
use Rattle.search.specs.declared.noting.Note.{Note}
use Rattle.sheet.specs.slate.route.Held.{Drawn}
use Rattle.sheet.specs.slate.route.Notes.{Noted}
use Rattle.sheet.proofs.slate.Holding.{kept_found, swept}
use Rattle.sheet.proofs.slate.stepping.seeking.find.Goals.{After-bits_of-fixed}
use Rattle.sheet.proofs.slate.stepping.seeking.find.Goals as goal

drawn : (b : After-bits_of-fixed) → Drawn b.args.width.bits b.args.n b.args.n (rules_in b.args.rows.now) (bands_in b.args.rows.now) b.bits_of-fixed.result
drawn b = record { own = b.requires.drawn.own; bits = b.bits_of-fixed.ensures }

pub note_at-note-requires : goal.note_at-note-requires
note_at-note-requires c = record { width = c.requires.width; n_bound = c.requires.few }

pub returns-then-note : goal.returns-then-note
returns-then-note c =
    subst (Noted c.args.width.bits c.args.n (rules_in c.args.rows.now)) (sym c.note_at-note.ensures) (c.requires.noted (sym (ap (λ (m : Note). m.known) c.note_at-note.ensures) ∙ c.if-note.true))

pub bits_of-fixed-requires : goal.bits_of-fixed-requires
bits_of-fixed-requires c = (c.requires.few, c.requires.places)

pub narrowed-kept-requires : goal.narrowed-kept-requires
narrowed-kept-requires c =
    let t = swept c.args.width.bits c.args.n (bands_in c.args.rows.now) c.bits_of-fixed.result (rules_in c.args.rows.now) c.requires.width.low c.requires.few (length-map c.args.rows.now band_in ∙ c.requires.places) c.requires.lawful (drawn (goal.at.narrowed-kept-requires c).After-bits_of-fixed) in record { width = c.requires.width; lie = t.lie; tidy = (t.tidy, t.within); bounds = subst (λ (f : Fixed). Bounds c.args.width.bits (take c.args.n (bands_in c.args.rows.now)) f c.args.before) (sym c.bits_of-fixed.ensures) c.requires.bounds }

pub returns : goal.returns
returns c =
    record {
      keeps_so = kept_found c.args.width.bits c.args.n (rules_in c.args.rows.now) (bands_in c.args.rows.now) c.bits_of-fixed.result c.requires.width.low c.requires.lawful (drawn (goal.at.returns c).After-bits_of-fixed) c.narrowed-kept.ensures;
      fixes_so = c.bits_of-fixed.ensures;
    }
