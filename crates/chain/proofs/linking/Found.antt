-- What was found, where it is the furthest of the first n bands: its band lies in the rows and fails p, the link by it is the step over
-- bands, and the link ends where it reaches. Assumes nothing.
use mathlib.Core.Path.{◌≡◌, sym, ap, ◌∙◌, subst}
use mathlib.Core.List.{List}
use Prim.Native.Nat.{ℕ}
use native.Mathlib.Omega.{arith}
use lib.ListN.{get_or, take}
use lib.Seq.{get_or-take}
use Rattle.word.specs.Search.{sink}
use Rattle.rule.specs.declared.band.Band.{Band}
use Rattle.rule.specs.band.route.Band.{holds}
use Rattle.rule.specs.declared.bits.Fixed.{Fixed}
use Rattle.search.specs.rows.route.Bands.{Lie, blank_band}
use Rattle.search.proofs.rows.Reading.{laid_take}
use Rattle.chain.specs.declared.Far.{Far}
use Rattle.chain.specs.declared.Far.TheVariants.{To, Nowhere}
use Rattle.chain.specs.declared.Link.{Link}
use Rattle.chain.specs.Links.{link, link_by}
use Rattle.chain.specs.route.OnBands.{furthest_band, gap_on, link_on}
use Rattle.chain.proofs.OnBands.{Failing, furthest_fails}
use Rattle.chain.proofs.due.Starts.{Ends}
use Rattle.chain.specs.link_step.route.Step.{Reached, link_to}

module _ (t p n : ℕ) (bs : List Band) (lie : Lie t n bs) where
  failing : (far : Far) → far ≡ furthest_band (take n bs) t p → Failing t p bs n far
  failing far found = subst (Failing t p bs n) (sym found) (furthest_fails t p bs n (omega (arith, lie.places, lie.count)))

  pub reached : (far : Far) → far ≡ furthest_band (take n bs) t p → Reached t p bs far
  reached (To q i) found =
      let f = failing (To q i) found in
      (omega (arith, f.0, lie.count), laid_take t bs n i blank_band f.0 (omega (arith, lie.places, lie.count)) lie.laid, f.1)
  reached Nowhere found = tt

  pub found_link : (fixed : Fixed) (far : Far) → far ≡ furthest_band (take n bs) t p → link_to bs fixed t p far ≡ link_on (take n bs) fixed t p
  unfolding link_to link_on link_by
  found_link fixed (To q i) found =
      ap (λ (b : Band). link (sink (holds b) p) q i) (sym (get_or-take n bs i blank_band (failing (To q i) found).0))
      ∙ ap (link_by (λ (j : ℕ). sink (holds (get_or (take n bs) j blank_band)) p) p (gap_on fixed t p)) found
  found_link fixed Nowhere found = ap (link_by (λ (j : ℕ). sink (holds (get_or (take n bs) j blank_band)) p) p (gap_on fixed t p)) found

-- a link ends where what was found reaches
pub link_ends : (t p : ℕ) (bs : List Band) (fixed : Fixed) (far : Far) (l : Link) → l ≡ link_to bs fixed t p far → Ends far l.to
unfolding link_to link_by
link_ends t p bs fixed (To q i) l e = sym (ap (λ (m : Link). m.to) e)
link_ends t p bs fixed Nowhere l e = tt
