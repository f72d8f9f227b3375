-- What is not refused: places for all that is in use, a width, and words in every interval in use. Assumes nothing.
use mathlib.Core.Path.{◌≡◌, refl}
use mathlib.Core.Bool.{Bool, true, false, not, ◌&&◌, cond}
use mathlib.Core.List.{List}
use Prim.Native.Nat.{ℕ, ◌≤◌, ◌<◌}
use native.Mathlib.Omega.{arith}
use borrow.Author.Tests.{leb-true, ltb-true, not-true}
use lib.Dec.{leb, ltb}
use Rattle.word.specs.Word.{top}
use Rattle.word.proofs.Tests.{both_pass}
use Rattle.span.specs.interval.Interval.{Words, hollow, within}
use Rattle.span.specs.Join.{is_width}
use Rattle.span.proofs.interval.Intervals.{is_words}
use Rattle.net.specs.declared.net_step.Join.{Join}
use Rattle.net.specs.declared.Net.{Net}
use Rattle.net.specs.Net.{AllNamed, refusal}
use Rattle.net.specs.net_tests.Fits.{JOINS, every, fits, join_at}
use Rattle.net.specs.net_step.Named.{Named, WORDS, named, third, word_at}
use Rattle.net.proofs.net_tests.Every.{every_holds}

pub record Accepted (net : Net) : Type 0 where
  pub words : net.count ≤ WORDS
  pub joins : net.joined ≤ JOINS
  pub names : (k : ℕ) → k < net.joined → Named net.count (join_at net.joins k)
  pub width : is_width net.width ≡ true
  pub intervals : (k : ℕ) → k < net.count → Words net.width (word_at net.words k)

rows : (a b c d : Bool) → ◌≡◌ {A = ℕ} (cond a (cond b (cond c (cond d 0 15) 5) 2) 16) 0 → (a ≡ true) × ((b ≡ true) × ((c ≡ true) × (d ≡ true)))
rows true true true true e = (refl, (refl, (refl, refl)))
rows true true true false e = absurd (omega arith)
rows true true false d e = absurd (omega arith)
rows true false c d e = absurd (omega arith)
rows false b c d e = absurd (omega arith)

is_named : (n : ℕ) (j : Join) → named n j ≡ true → Named n j
unfolding named
is_named n j e =
    let (h, t) = both_pass (ltb j.h n) (ltb j.x n && ltb (third j) n) e in
    let (x, y) = both_pass (ltb j.x n) (ltb (third j) n) t in
    record { h = ltb-true j.h n h; x = ltb-true j.x n x; y = ltb-true (third j) n y }

pub count_fits : (n : ℕ) (js : List Join) (m : ℕ) → fits n js m ≡ true → n ≤ WORDS
unfolding fits
count_fits n js m e =
    leb-true n WORDS (both_pass (leb n WORDS) (leb m JOINS && every m (λ k. named n (join_at js k))) e).0

module _ {net : Net} where
  pub accepted : refusal net ≡ 0 → Accepted net
  unfolding refusal fits
  accepted e =
      let (a, (b, (c, d))) = rows (fits net.count net.joins net.joined) (is_width net.width) (every net.count inside) (every net.count whole) e in
      let (n, t) = both_pass (leb net.count WORDS) (leb net.joined JOINS && every net.joined there) a in
      let (m, s) = both_pass (leb net.joined JOINS) (every net.joined there) t in
      record {
        words = leb-true net.count WORDS n;
        joins = leb-true net.joined JOINS m;
        names = λ k h. is_named net.count _ (every_holds net.joined there s k h);
        width = b;
        intervals = λ k h. is_words net.width _ (every_holds net.count inside c k h) (not-true _ (every_holds net.count whole d k h));
      }
    where
      inside : ℕ → Bool
      inside k = within (top net.width) (word_at net.words k)

      whole : ℕ → Bool
      whole k = not (hollow (word_at net.words k))

      there : ℕ → Bool
      there k = named net.count (join_at net.joins k)

  pub all_named : Accepted net → AllNamed net
  all_named a =
      record {
        joins = a.joins;
        names = λ k h.
            let n = a.names k h in
            record { h = omega (arith, n.h, a.words); x = omega (arith, n.x, a.words); y = omega (arith, n.y, a.words) };
      }
