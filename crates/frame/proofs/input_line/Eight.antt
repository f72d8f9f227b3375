-- A line looked at eight bytes at a step: it goes on so far where no byte so far is a byte 10. Assumes nothing.
use mathlib.Core.Path.{◌≡◌, ap}
use mathlib.Core.Bool.{Bool, and-true, not, ◌&&◌}
use mathlib.Core.List.{List}
use Prim.Native.Nat.{ℕ, zero, suc, ◌+◌, ◌≤◌, ◌<◌}
use native.Mathlib.Decide.{ℕ_discrete}
use native.Mathlib.Nat.{add-zero}
use native.Mathlib.Omega.{arith}
use borrow.Author.Tests.{eq-eqb, ne_eqb}
use lib.Dec.{eqb, leb, leb-suc-suc, leb-suc-zero, leb-zero}
use lib.ListN.{drop, get_or, length}
use Rattle.frame.specs.fields.Answers.{NEWLINE}
use Rattle.frame.specs.input_line.Lines.{line_of}
use Rattle.frame.proofs.input_line.Lines.{line_goes, line_stops}

-- byte i is no byte 10
abbrev goes : List ℕ → ℕ → Bool
goes s i = not (eqb (get_or s i 0) NEWLINE)

module _ (s : List ℕ) (i j k : ℕ) (h : i < length s) (e : j ≡ suc i) where
  -- a line has one byte more than k where this one is no byte 10 and k follow
  one_more : leb (suc k) (length (line_of (drop i s))) ≡ (goes s i && leb k (length (line_of (drop j s))))
  one_more = go (ℕ_discrete (get_or s i 0) NEWLINE)
    where
      go : Dec (get_or s i 0 ≡ NEWLINE) → leb (suc k) (length (line_of (drop i s))) ≡ (goes s i && leb k (length (line_of (drop j s))))
      go (yes q) = rw (line_stops s i h q, eq-eqb (get_or s i 0) NEWLINE q) (leb-suc-zero k)
      go (no n) = rw (line_goes s i h n, ne_eqb (get_or s i 0) NEWLINE n, e) (leb-suc-suc k (length (line_of (drop (suc i) s))))

-- a line has eight bytes where none of the next eight is a byte 10
pub eight_more : (s : List ℕ) (i : ℕ) → i + 8 ≤ length s → leb 8 (length (line_of (drop i s)))
    ≡ (goes s i && (goes s (i + 1) && (goes s (i + 2) && (goes s (i + 3) && (goes s (i + 4) && (goes s (i + 5) && (goes s (i + 6) && goes s (i + 7))))))))
eight_more s i h =
    rw (
      one_more s i (i + 1) 7 (omega arith) (omega arith),
      one_more s (i + 1) (i + 2) 6 (omega arith) (omega arith),
      one_more s (i + 2) (i + 3) 5 (omega arith) (omega arith),
      one_more s (i + 3) (i + 4) 4 (omega arith) (omega arith),
      one_more s (i + 4) (i + 5) 3 (omega arith) (omega arith),
      one_more s (i + 5) (i + 6) 2 (omega arith) (omega arith),
      one_more s (i + 6) (i + 7) 1 (omega arith) (omega arith),
      one_more s (i + 7) (i + 8) 0 (omega arith) (omega arith),
      leb-zero (length (line_of (drop (i + 8) s))),
      and-true (goes s (i + 7)),
    )

-- a line that has k bytes ends where what is left of it after them ends
pub further : (s : List ℕ) (k i : ℕ) → i + k ≤ length s → k ≤ length (line_of (drop i s))
    → i + length (line_of (drop i s)) ≡ i + k + length (line_of (drop (i + k) s))
further s zero i h g = rw (add-zero i)
further s (suc k) i h g = go (ℕ_discrete (get_or s i 0) NEWLINE) (further s k (suc i) (omega arith))
  where
    go : Dec (get_or s i 0 ≡ NEWLINE)
        → (k ≤ length (line_of (drop (suc i) s)) → suc i + length (line_of (drop (suc i) s)) ≡ suc i + k + length (line_of (drop (suc i + k) s)))
        → i + length (line_of (drop i s)) ≡ i + suc k + length (line_of (drop (i + suc k) s))
    go (yes q) ih = absurd (omega (arith, ap length (line_stops s i (omega arith) q)))
    go (no n) ih =
        let e = ap length (line_goes s i (omega arith) n) in
        let m : i + suc k ≡ suc i + k = omega arith in
        rw m (omega (arith, ih (omega arith)))
