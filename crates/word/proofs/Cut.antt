-- A 64-bit machine word holds every width up to 64: shifting its ones down gives the top word, and a number cut to 64
-- bits and then to w is the number cut to w. Assumes nothing.
use Rattle.std.proofs.Common.{◌≡◌, ℕ, ◌+◌, ◌-◌, ◌*◌, ◌/◌, ◌%◌, ◌^◌, ◌<◌, ◌≤◌, sym, ap, ◌∙◌, subst, mod-lt, mod-eq_of_lt, one-mul, div-add-mod', arith, pow_pos}
use native.Mathlib.Nat.{mod-add-mod, add-mod_right, add-mul-mod_self_right}
use lib.Bits.{bit_and, and_mask}
use lib.Pow.{pow-lt, ones_lt, ones_split, high, mod-mod-pow}
use Rattle.word.specs.Word.{top, half, plus, minus}

rest : (w : ℕ) → w ≤ 64 → w + (64 - w) ≡ 64
rest w h = omega arith

pub top_shifted : (w : ℕ) → w ≤ 64 → (2 ^ 64 - 1) / 2 ^ (64 - w) ≡ top w
unfolding top
top_shifted w h =
    subst (λ (n : ℕ). (2 ^ n - 1) / 2 ^ (64 - w) ≡ 2 ^ w - 1) (rest w h)
    (ap (λ (n : ℕ). n / 2 ^ (64 - w)) (ones_split w (64 - w)) ∙ high (2 ^ w - 1) (64 - w) (ones_lt (64 - w)))

pub half_shifted : (w : ℕ) → 1 ≤ w → w ≤ 64 → (1 * 2 ^ (w - 1)) % 2 ^ 64 ≡ half w
unfolding half
half_shifted w l h = ap (λ (n : ℕ). n % 2 ^ 64) (one-mul (2 ^ (w - 1))) ∙ mod-eq_of_lt (pow-lt {i = w - 1} {j = 64} (omega arith))

pub cut : (w n : ℕ) → w ≤ 64 → n % 2 ^ 64 % 2 ^ w ≡ n % 2 ^ w
cut w n h =
    let e : (64 - w) + w ≡ 64 = omega arith in
    subst (λ (k : ℕ). n % 2 ^ k % 2 ^ w ≡ n % 2 ^ w) e (mod-mod-pow n (64 - w) w)

-- what a machine sum wraps to, masked
pub plus_masked : (w a b : ℕ) → w ≤ 64 → bit_and ((a + b) % 2 ^ 64) (top w) ≡ plus w a b
unfolding top plus
plus_masked w a b h = and_mask ((a + b) % 2 ^ 64) w ∙ cut w (a + b) h

-- the machine's difference, with b added again, is a
pub wrapped_back : (a b : ℕ) → a < 2 ^ 64 → b < 2 ^ 64 → ((a + (2 ^ 64 - b)) % 2 ^ 64 + b) % 2 ^ 64 ≡ a
wrapped_back a b h k =
    mod-add-mod (a + (2 ^ 64 - b)) (2 ^ 64) b
    ∙ ap (λ (n : ℕ). n % 2 ^ 64) regroup
    ∙ add-mod_right a (2 ^ 64)
    ∙ mod-eq_of_lt h
  where
    regroup : a + (2 ^ 64 - b) + b ≡ a + 2 ^ 64
    regroup = omega arith

-- what a machine difference wraps to, masked: r is the machine's a - b
pub minus_masked : (w a b r : ℕ) → w ≤ 64 → (r + b) % 2 ^ 64 ≡ a → bit_and r (top w) ≡ minus w a b
unfolding top minus
minus_masked w a b r h e = and_mask r w ∙ sym (to_sum ∙ mod-add-mod (r + b) N K ∙ ap (λ (n : ℕ). n % N) regroup ∙ turns)
  where
    N : ℕ
    N = 2 ^ w

    K : ℕ
    K = N - b % N

    to_sum : (a + K) % N ≡ ((r + b) % N + K) % N
    to_sum = sym (mod-add-mod a N K) ∙ ap (λ (n : ℕ). (n + K) % N) (ap (λ (n : ℕ). n % N) (sym e) ∙ cut w (r + b) h)

    regroup : r + b + K ≡ r + N + b / N * N
    regroup = omega (arith, div-add-mod' b N, mod-lt b (pow_pos w))

    turns : (r + N + b / N * N) % N ≡ r % N
    turns = add-mul-mod_self_right (r + N) (b / N) N ∙ add-mod_right r N
