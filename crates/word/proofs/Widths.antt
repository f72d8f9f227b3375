-- The top word and half, as numbers: the top word is one below 2^w, and two halves make 2^w. Assumes nothing.
use Rattle.std.proofs.Common.{◌≡◌, ℕ, suc, ◌+◌, ◌-◌, ◌^◌, ◌<◌, ◌≤◌, sym, ap, ◌∙◌, arith, pow_pos, pow_mono}
use native.Mathlib.Nat.{two-pow-succ}
use lib.Pow.{suc_ones}
use Rattle.word.specs.Word.{top, half}

pub top-suc : (w : ℕ) → suc (top w) ≡ 2 ^ w
unfolding top
top-suc w = suc_ones w

pub halves : (w : ℕ) → 1 ≤ w → half w + half w ≡ suc (top w)
unfolding half
halves w h =
    let e : suc (w - 1) ≡ w = omega arith in
    sym (two-pow-succ (w - 1)) ∙ ap (λ (n : ℕ). 2 ^ n) e ∙ sym (top-suc w)

pub half_pos : (w : ℕ) → 0 < half w
unfolding half
half_pos w = pow_pos (w - 1)

pub half_fits : (w : ℕ) → w ≤ 64 → half w ≤ 2 ^ 63
unfolding half
half_fits w h = pow_mono {i = w - 1} {j = 63} (omega arith)
