-- No second outcome satisfies what is promised of the numbers lent for the chain: asking leaves one, and no other call touches them. Assumes
-- nothing.
use mathlib.Core.Path.{◌≡◌, refl}
use mathlib.Core.List.{List}
use Prim.Native.Nat.{ℕ}
use Rattle.sheet.specs.declared.Sheet.{Sheet}
use Rattle.sheet.proofs.demands.Unique.{asked_unique}
use Rattle.frame.specs.Calls.{MadeCall}
use Rattle.desk.specs.frame_call.Chain.{ChainLeft, by_asking, no_frame, untouched}

pub one_chain : {s : Sheet} {b b₁ b₂ : List ℕ} {c : MadeCall} → ChainLeft s b c b₁ → ChainLeft s b c b₂ → b₁ ≡ b₂
one_chain (by_asking r a) (by_asking q d) = (asked_unique a d).1
one_chain untouched untouched = refl
one_chain no_frame no_frame = refl
