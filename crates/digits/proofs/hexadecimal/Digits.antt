-- Digits written one after another, in either order, and a bound on the number that digits write. Assumes nothing.
use mathlib.Core.Path.{◌≡◌, refl, sym, ap, ap₂, ◌∙◌}
use mathlib.Core.List.{List, [], ◌∷◌, ◌++◌}
use Prim.Native.Nat.{ℕ, zero, suc, ◌+◌, ◌*◌, ◌/◌, ◌^◌, ◌<◌}
use native.Mathlib.Nat.{add-suc, suc-add, add-zero}
use native.Mathlib.Numerals.{add-one}
use native.Mathlib.Omega.{arith}
use lib.ListN.{length, length-append, set}
use lib.Pow.{pow-add, pow_mono}
use lib.Seq.{set_comm, sets}
use Rattle.digits.specs.hexadecimal.Hex.{MOST, Written, hex}

-- stores from a place on, and then from where they end, are stores of all
sets-sets : (l xs ys : List ℕ) (i : ℕ) → sets (sets l i xs) (i + length xs) ys ≡ sets l i (xs ++ ys)
sets-sets l [] ys i = ap (λ (k : ℕ). sets l k ys) (add-zero i)
sets-sets l (x ∷ xs) ys i =
    ap (λ (k : ℕ). sets (sets (set l i x) (suc i) xs) k ys) (add-suc i (length xs) ∙ sym (suc-add i (length xs)))
    ∙ sets-sets (set l i x) xs ys (suc i)

pub and_then : {b b₁ b₂ : List ℕ} {i j : ℕ} {xs ys : List ℕ} → Written b i xs b₁ → Written b₁ j ys b₂ → j ≡ i + length xs
    → Written b i (xs ++ ys) b₂
and_then {b} {b₁} {b₂} {i} {j} {xs} {ys} u v e =
    record { stands = v.stands ∙ ap₂ (λ (m : List ℕ) (k : ℕ). sets m k ys) u.stands e ∙ sets-sets b xs ys i }

pub length-hex : (k x : ℕ) → length (hex k x) ≡ k
unfolding hex
length-hex zero x = refl
length-hex (suc k) x = length-append (hex k (x / 16)) _ ∙ ap (λ (n : ℕ). n + 1) (length-hex k (x / 16)) ∙ add-one k

-- the last of several stores may come first
pub last_first : (l xs : List ℕ) (i v : ℕ) → sets (set l (i + length xs) v) i xs ≡ sets l i (xs ++ v ∷ [])
last_first l [] i v = ap (λ (k : ℕ). set l k v) (add-zero i)
last_first l (x ∷ xs) i v =
    let e = add-suc i (length xs) ∙ sym (suc-add i (length xs)) in
    ap (λ (m : List ℕ). sets m (suc i) xs) (set_comm l (i + suc (length xs)) i v x (λ q. omega arith) ∙ ap (λ (k : ℕ). set (set l i x) k v) e)
    ∙ last_first (set l i x) xs (suc i) v

-- a digit more takes four bits more
pub digit_more : (k n v : ℕ) → n < 2 ^ (4 * k) → v < 16 → 16 * n + v < 2 ^ (4 * k + 4)
digit_more k n v h g = rw (pow-add 2 (4 * k) 4) (omega arith)

-- where there are fewer than the most digits, one more still fits 64 bits
pub room_for_one : (k n : ℕ) → k < MOST → n < 2 ^ (4 * k) → n < 2 ^ 60
room_for_one k n h g = let m = pow_mono {i = 4 * k} {j = 60} (omega arith) in omega arith
