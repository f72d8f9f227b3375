-- What the test of a width means. Assumes nothing.
use mathlib.Core.Path.{◌≡◌}
use mathlib.Core.Bool.{true}
use Prim.Native.Nat.{ℕ}
use borrow.Author.Tests.{leb-true}
use lib.Dec.{leb}
use Rattle.word.specs.Word.{IsWidth}
use Rattle.word.proofs.Tests.{both_pass}
use Rattle.span.specs.Join.{is_width}

pub width_passes : {w : ℕ} → is_width w ≡ true → IsWidth w
unfolding is_width
width_passes {w} e =
    let (l, h) = both_pass (leb 1 w) (leb w 64) e in record { low = leb-true 1 w l; high = leb-true w 64 h }
