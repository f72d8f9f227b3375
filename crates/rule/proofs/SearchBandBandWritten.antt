-- The lemmas that the goals of `written` want, whatever its tests are named. Assumes nothing.
use Rattle.std.proofs.Common.{◌≡◌, ℕ, ◌-◌, sym, refl, ap, ◌∙◌, ap₂, arith}
use Rattle.word.specs.Word.{minus, top}
use Rattle.word.proofs.Widths.{half_pos}
use Rattle.rule.proofs.Forms.{end, row}
use Rattle.rule.specs.band.route.Band.{span, written_bands}
use Rattle.rule.proofs.band.Laying.{at_band, no_band}

pub from_top : (w c : ℕ) {t m : ℕ} → m ≡ minus w t c → t ≡ top w → m ≡ minus w (top w) c
from_top w c e f = e ∙ ap (λ (n : ℕ). minus w n c) f

pub ruleset wanted = (half_pos, end, row, at_band, no_band, from_top)
