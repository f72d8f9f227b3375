-- `Band::settled` meets its contract: the test on the settling time picks the side of the definition. Assumes nothing.
use Rattle.std.proofs.Common.{◌≡◌, ℕ, ◌-◌, ◌<◌, ◌≤◌, Bool, true, false, cond, leb, sym, ap, ◌∙◌, ap₂, arith, le-leb}
use borrow.Author.Tests.{lt-leb}
use Rattle.word.specs.Word.{half, plus, top}
use Rattle.word.proofs.Widths.{half_pos}
use Rattle.rule.specs.band.route.Band.{settled_band, span, wheel}
use Rattle.rule.proofs.band.Band.settled.Goals as goal

-- h is what the code has for half
module _ (w c1 c2 : ℕ) {h : ℕ} (is-half : h ≡ half w) where
  picks : (b : Bool) → leb h c2 ≡ b → cond b (wheel (top w) true) (span (plus w c1 c2) (plus w c1 (half w - 1))) ≡ settled_band w c1 c2
  unfolding settled_band
  picks b e =
      ap (λ (b : Bool). cond b (wheel (top w) true) (span (plus w c1 c2) (plus w c1 (half w - 1)))) (sym e ∙ ap (λ (h : ℕ). leb h c2) is-half)

  late : {t : ℕ} → t ≡ top w → h ≤ c2 → wheel t true ≡ settled_band w c1 c2
  late e l = ap (λ (t : ℕ). wheel t true) e ∙ picks true (le-leb h c2 l)

  early : {a b : ℕ} → a ≡ plus w c1 c2 → b ≡ plus w c1 (h - 1) → c2 < h → span a b ≡ settled_band w c1 c2
  early d e l = ap₂ span d (e ∙ ap (λ (h : ℕ). plus w c1 (h - 1)) is-half) ∙ picks false (lt-leb h c2 l)

pub returns-then-half-rule : goal.returns-then-half-rule
returns-then-half-rule c =
    c.wheel.ensures ∙ late _ _ _ c.half-half.ensures c.top.ensures c.if-half-rule.true

pub overflow_sub-half : goal.overflow_sub-half
overflow_sub-half c = omega (arith, half_pos c.args.width.bits)

pub returns : goal.returns
returns c =
    c.span.ensures
    ∙ early _ _ _ c.half-half.ensures c.add.ensures c.add-2.ensures c.if-half-rule.false
