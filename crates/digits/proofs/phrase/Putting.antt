-- Texts written one after the other are one text. Assumes nothing.
use mathlib.Core.Path.{◌≡◌, refl, sym, ap, subst, ◌∙◌}
use mathlib.Core.List.{List, [], ◌++◌}
use Prim.Native.Nat.{ℕ}
use native.Mathlib.Nat.{add-zero}
use native.Mathlib.Omega.{arith}
use lib.ListN.{length, length-append}
use lib.Seq.{length-sets}
use Rattle.digits.proofs.hexadecimal.Digits.{and_then}
use Rattle.digits.specs.phrase.Phrase.{Put}

pub put_then : {b b₁ b₂ : List ℕ} {i j k : ℕ} {xs ys : List ℕ} → Put b i xs b₁ j → Put b₁ j ys b₂ k → Put b i (xs ++ ys) b₂ k
put_then {xs = xs} {ys = ys} u v = (and_then u.0 v.0 u.1, omega (arith, u.1, v.1, length-append xs ys))

-- the buffer keeps its length
pub put_length : {b b' : List ℕ} {i j : ℕ} {xs : List ℕ} → Put b i xs b' j → length b' ≡ length b
put_length {b} {i = i} {xs = xs} u = ap length u.0.stands ∙ length-sets b i xs

-- a text by another name
pub put_as : {b b' : List ℕ} {i j : ℕ} {xs ys : List ℕ} → xs ≡ ys → Put b i xs b' j → Put b i ys b' j
put_as {b} {b'} {i} {j} e u = subst (λ (zs : List ℕ). Put b i zs b' j) e u

-- nothing is written
pub put_nothing : (b : List ℕ) (i : ℕ) → Put b i [] b i
put_nothing b i = (record { stands = refl }, sym (add-zero i))
