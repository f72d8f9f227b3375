-- What is kept of no rules: every word fits, so that there are many, from 0 to the top word. Assumes nothing.
use mathlib.Core.Path.{◌≡◌, refl}
use mathlib.Core.List.{[]}
use Prim.Native.Nat.{ℕ, ◌≤◌}
use native.Mathlib.Omega.{arith}
use Rattle.word.specs.Word.{top}
use Rattle.word.proofs.Widths.{half_pos, halves}
use Rattle.rule.specs.Meaning.{fits}
use Rattle.search.specs.verdict.Kept.{keeps, kept}
use Rattle.search.specs.verdict.Demand.{Fits}
use Rattle.search.proofs.verdict.Right.{right_unique}

module _ (w : ℕ) (width : 1 ≤ w) where
  all : (x : ℕ) → x ≤ top w → Fits w [] x
  unfolding fits
  all x h = record { word = h; meets = refl }

  pub kept_none : keeps 2 0 (top w) ≡ kept w []
  kept_none =
      let two : 1 ≤ top w = omega (arith, halves w width, half_pos w) in
      right_unique w [] (keeps 2 0 (top w))
      (record {
        none = (λ e. absurd (omega arith), λ h. absurd (h 0 (all 0 (omega arith))));
        one = (λ e. absurd (omega arith), λ h. absurd (omega (arith, h.2 0 (all 0 (omega arith)), h.2 1 (all 1 two))));
        many = (λ e. (0, 1, omega arith, all 0 (omega arith), all 1 two), λ h. refl);
        no_words = λ e. absurd (omega arith);
        ends = λ x h. (all 0 (omega arith), all (top w) (omega arith), omega arith, h.word);
      })
