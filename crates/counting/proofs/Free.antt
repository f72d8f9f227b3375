-- The two numbers together are the words counted; and without a rule every word fits: 2^w of them, which at 64 bits is 2^32 and 0.
-- Assumes nothing.
use mathlib.Core.Path.{◌≡◌, refl, ap}
use mathlib.Core.List.{[]}
use Prim.Native.Nat.{ℕ, zero, suc, ◌^◌}
use native.Mathlib.Omega.{arith}
use Rattle.word.specs.Search.{count}
use Rattle.rule.specs.Meaning.{fits}
use Rattle.counting.specs.fitting.Words.{how_many}
use Rattle.counting.specs.declared.Share.{Share}
use Rattle.counting.specs.tally.route.Total.{UNIT}
use Rattle.counting.specs.Share.{shares, together}

pub together-shares : (n h : ℕ) → together (shares n h) ≡ h
together-shares n h = omega arith

all_fit : (w k p : ℕ) → count (fits w []) k p ≡ k
unfolding count fits
all_fit w zero p = refl
all_fit w (suc k) p = ap suc (all_fit w k (suc p))

pub free_word : (w : ℕ) → how_many w [] ≡ 2 ^ w
unfolding how_many
free_word w = all_fit w (2 ^ w) 0

-- "a free 64-bit word has 2^64"
pub free_64 : ◌≡◌ {A = Share} (shares 0 (how_many 64 [])) (record { number = 0; quotient = UNIT; remainder = 0 })
free_64 = ap (shares 0) (free_word 64)
