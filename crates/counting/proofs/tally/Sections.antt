-- The words that pass below the end of a section: those below its first word and, where the bands hold it, those of its own that have
-- the bits. Assumes nothing.
use mathlib.Core.Path.{◌≡◌, sym, ap, ◌∙◌}
use mathlib.Core.Bool.{true, false}
use mathlib.Core.List.{List}
use Prim.Native.Nat.{ℕ, suc, ◌+◌, ◌-◌}
use native.Mathlib.Omega.{arith}
use lib.ListN.{length}
use Rattle.word.specs.Search.{count}
use Rattle.rule.specs.declared.band.Band.{Band}
use Rattle.rule.specs.declared.bits.Fixed.{Fixed}
use Rattle.rule.specs.bits.route.Fixed.{has_bits}
use Rattle.search.specs.rows.route.Bands.{passes}
use Rattle.search.specs.declared.section.Section.{Section}
use Rattle.search.proofs.section.Alike.{Alike, failing_passes, held-passes}
use Rattle.counting.proofs.fitting.Passing.{count_same, none_passing, passing-length}
use Rattle.counting.proofs.tally.Sums.{below_to}

module _ {t : ℕ} {bs : List Band} {p : ℕ} {s : Section} (a : Alike t bs p s) (f : Fixed) where
  pub held_section : s.held ≡ true → count (passes bs f) (suc s.to) 0 ≡ count (passes bs f) p 0 + count (has_bits f) (suc s.to - p) p
  held_section e =
      below_to (passes bs f) p (suc s.to) (omega (arith, a.order))
      ∙ ap (λ (n : ℕ). count (passes bs f) p 0 + n)
      (count_same (passes bs f) (has_bits f) (suc s.to - p) p (λ y l h. held-passes a f y l (omega arith) e))

  pub failing_section : s.held ≡ false → count (passes bs f) (suc s.to) 0 ≡ count (passes bs f) p 0
  failing_section e =
      let none = none_passing (passes bs f) (suc s.to - p) p (λ y l h. failing_passes a f y l (omega arith) e) in
      let zero : count (passes bs f) (suc s.to - p) p ≡ 0 = sym (passing-length (passes bs f) (suc s.to - p) p) ∙ ap length none in
      omega (arith, below_to (passes bs f) p (suc s.to) (omega (arith, a.order)))
