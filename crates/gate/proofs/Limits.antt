-- The patterns of a half whose values lie between those of two patterns that are numbers: in the lower half they rise with their bits,
-- and the upper half is the lower one with the signs turned. Assumes nothing.
use mathlib.Core.Path.{◌≡◌, refl, sym, ap, ap₂, ◌∙◌}
use mathlib.Core.Bool.{Bool, true, false, not, ◌&&◌, and_comm, and-false, cond}
use mathlib.Core.Logic.{⊎_elim}
use Prim.Native.Nat.{ℕ, zero, suc, ◌+◌, ◌-◌, ◌%◌, ◌^◌, ◌≤◌, ◌<◌}
use native.Mathlib.Decide.{dec_le, dec_lt, ℕ_discrete}
use native.Mathlib.Omega.{arith}
use lib.Dec.{eqb, eqb-suc-zero, leb, leb-zero, ltb}
use borrow.Author.Tests.{eq-eqb, le-leb, le-ltb, leb-true, lt-leb, lt-ltb, ltb-true, ne_eqb}
use Rattle.word.specs.Word.{half, plus, top}
use Rattle.word.proofs.Sums.{plus_cases, plus_word}
use Rattle.word.proofs.Tests.{same_test}
use Rattle.gate.specs.route.Route.{IsLimit, from_of, past_of, run_of}
use Rattle.gate.specs.Value.{Value, finite, infinity, le_v, not_a_number, sign, value}
use Rattle.gate.proofs.Halves.{Runs}
use Rattle.gate.proofs.Order.{turn_order}
use Rattle.gate.proofs.Reading.{INFINITY, no_number, reading, reading_order, value_is}

-- the words whose values lie from that of one pattern to that of another
abbrev pub in_span : ℕ → ℕ → ℕ → Bool
in_span low high x = le_v (value low) (value x) && le_v (value x) (value high)

pub halved : half 32 ≡ 2 ^ 31
unfolding half
halved = refl

pub whole : top 32 ≡ 2 ^ 32 - 1
unfolding top
whole = refl

plainly : (x : ℕ) → x < half 32 → value x ≡ reading false x
unfolding sign
plainly x h =
    value_is x ∙ ap₂ reading (lt-leb (2 ^ 31) x (omega (arith, halved))) (let e : x % 2 ^ 31 ≡ x = omega (arith, halved) in e)

turned_over : (x : ℕ) → x < half 32 → value (half 32 + x) ≡ reading true x
unfolding sign
turned_over x h =
    value_is (half 32 + x)
    ∙ ap₂ reading (le-leb (2 ^ 31) (half 32 + x) (omega (arith, halved))) (let e : (half 32 + x) % 2 ^ 31 ≡ x = omega (arith, halved) in e)

pub no_order : (v : Value) → le_v v not_a_number ≡ false
unfolding le_v
no_order (finite a) = refl
no_order (infinity s) = refl
no_order not_a_number = refl

next : (y h : ℕ) → leb y h ≡ ltb y (h + 1)
next y h = same_test (leb y h) (ltb y (h + 1)) (λ e. lt-ltb y (h + 1) (omega (arith, leb-true y h e))) (λ e. le-leb y h (omega (arith, ltb-true y (h + 1) e)))

only_zero : (y : ℕ) → (eqb y 0 && true) ≡ ltb y 1
only_zero zero = refl
only_zero (suc y) = ap (λ (b : Bool). b && true) (eqb-suc-zero y) ∙ sym (le-ltb (suc y) 1 (omega arith))

in_no_order : (v : Value) → le_v not_a_number v ≡ false
unfolding le_v
in_no_order v = refl

-- a limit by its sign and its other bits
module _ (p : ℕ) (limit : IsLimit p) where
  low_sign : p < half 32 → sign p ≡ false
  unfolding sign
  low_sign h = lt-leb (2 ^ 31) p (omega (arith, halved))

  high_sign : half 32 ≤ p → sign p ≡ true
  unfolding sign
  high_sign h = le-leb (2 ^ 31) p (omega (arith, halved))

  -- with the other sign
  turned_bits : plus 32 p (half 32) % 2 ^ 31 ≡ p % 2 ^ 31
  turned_bits =
      ⊎_elim (λ c. omega (arith, halved, whole, c)) (λ c. omega (arith, halved, whole, c))
      (plus_cases 32 p (half 32) limit.word (omega (arith, halved, whole)))

  pub turned_limit : IsLimit (plus 32 p (half 32))
  turned_limit = record { word = plus_word 32 p (half 32); number = omega (arith, turned_bits, limit.number) }

  turned_sign : value (plus 32 p (half 32)) ≡ reading (not (sign p)) (p % 2 ^ 31)
  unfolding sign
  turned_sign = value_is (plus 32 p (half 32)) ∙ ap₂ reading (go (dec_lt p (half 32))) turned_bits
    where
      go : Dec (p < half 32) → sign (plus 32 p (half 32)) ≡ not (sign p)
      go (yes h) =
          ⊎_elim (λ c. le-leb (2 ^ 31) (plus 32 p (half 32)) (omega (arith, halved, c))) (λ c. absurd (omega (arith, halved, whole, c)))
          (plus_cases 32 p (half 32) limit.word (omega (arith, halved, whole)))
          ∙ sym (ap not (low_sign h))
      go (no h) =
          ⊎_elim (λ c. absurd (omega (arith, halved, whole, c))) (λ c. lt-leb (2 ^ 31) (plus 32 p (half 32)) (omega (arith, halved, whole, c, limit.word)))
          (plus_cases 32 p (half 32) limit.word (omega (arith, halved, whole)))
          ∙ sym (ap not (high_sign (omega arith)))

  pub past_end : past_of p ≤ INFINITY + 1
  unfolding past_of
  past_end = go (dec_lt p (half 32)) (ℕ_discrete p (half 32))
    where
      go : Dec (p < half 32) → Dec (p ≡ half 32) → cond (ltb p (half 32)) (p + 1) (cond (eqb p (half 32)) 1 0) ≤ INFINITY + 1
      go (yes h) d = rw (lt-ltb p (half 32) h) (omega (arith, halved, limit.number))
      go (no h) (yes d) = rw (le-ltb p (half 32) (omega arith), eq-eqb p (half 32) d) (omega arith)
      go (no h) (no d) = rw (le-ltb p (half 32) (omega arith), ne_eqb p (half 32) d) (omega arith)

  module _ (y : ℕ) (number : y ≤ INFINITY) where
    at_least : le_v (value p) (value y) ≡ leb (from_of p) y
    unfolding from_of
    at_least = go (dec_lt p (half 32))
      where
        go : Dec (p < half 32) → le_v (value p) (value y) ≡ leb (cond (ltb p (half 32)) p 0) y
        go (yes h) =
            ap₂ le_v (plainly p h) (plainly y (omega (arith, halved)))
            ∙ reading_order false false p y (omega (arith, halved, limit.number)) number
            ∙ sym (ap (λ (b : Bool). leb (cond b p 0) y) (lt-ltb p (half 32) h))
        go (no h) =
            ap₂ le_v (value_is p ∙ ap (λ (s : Bool). reading s (p % 2 ^ 31)) (high_sign (omega arith))) (plainly y (omega (arith, halved)))
            ∙ reading_order true false (p % 2 ^ 31) y limit.number number
            ∙ sym (ap (λ (b : Bool). leb (cond b p 0) y) (le-ltb p (half 32) (omega arith)) ∙ leb-zero y)

    at_most : le_v (value y) (value p) ≡ ltb y (past_of p)
    unfolding past_of
    at_most = go (dec_lt p (half 32)) (ℕ_discrete p (half 32))
      where
        minus_zero : half 32 ≤ p → le_v (value y) (value p) ≡ (eqb y 0 && eqb (p % 2 ^ 31) 0)
        minus_zero h =
            ap₂ le_v (plainly y (omega (arith, halved))) (value_is p ∙ ap (λ (s : Bool). reading s (p % 2 ^ 31)) (high_sign h))
            ∙ reading_order false true y (p % 2 ^ 31) number limit.number

        go : Dec (p < half 32) → Dec (p ≡ half 32) → le_v (value y) (value p) ≡ ltb y (cond (ltb p (half 32)) (p + 1) (cond (eqb p (half 32)) 1 0))
        go (yes h) d =
            rw (lt-ltb p (half 32) h)
            (ap₂ le_v (plainly y (omega (arith, halved))) (plainly p h)
            ∙ reading_order false false y p number (omega (arith, halved, limit.number))
            ∙ next y p)
        go (no h) (yes d) =
            rw (le-ltb p (half 32) (omega arith), eq-eqb p (half 32) d)
            (minus_zero (omega arith) ∙ ap (λ (b : Bool). eqb y 0 && b) (eq-eqb (p % 2 ^ 31) 0 (omega (arith, halved))) ∙ only_zero y)
        go (no h) (no d) =
            rw (le-ltb p (half 32) (omega arith), ne_eqb p (half 32) d)
            (minus_zero (omega arith)
            ∙ ap (λ (b : Bool). eqb y 0 && b) (ne_eqb (p % 2 ^ 31) 0 (λ e. omega (arith, halved, whole, limit.word)))
            ∙ and-false (eqb y 0)
            ∙ sym (le-ltb y 0 (omega arith)))

  -- against a word of the upper half
  module _ (y : ℕ) (word : y < half 32) where
    no_reading : (s : Bool) → INFINITY < y → reading s y ≡ not_a_number
    no_reading s h = no_number s y h (omega (arith, halved))

    turn_least : le_v (value p) (value (half 32 + y)) ≡ le_v (value y) (value (plus 32 p (half 32)))
    turn_least = go (dec_le y INFINITY)
      where
        go : Dec (y ≤ INFINITY) → le_v (value p) (value (half 32 + y)) ≡ le_v (value y) (value (plus 32 p (half 32)))
        go (yes h) =
            ap₂ le_v (value_is p) (turned_over y word)
            ∙ reading_order (sign p) true (p % 2 ^ 31) y limit.number h
            ∙ turn_order (sign p) true (p % 2 ^ 31) y
            ∙ sym (ap₂ le_v (plainly y word) turned_sign ∙ reading_order false (not (sign p)) y (p % 2 ^ 31) h limit.number)
        go (no h) =
            ap (le_v (value p)) (turned_over y word ∙ no_reading true (omega arith))
            ∙ no_order (value p)
            ∙ sym (ap (λ (v : Value). le_v v (value (plus 32 p (half 32)))) (plainly y word ∙ no_reading false (omega arith)) ∙ in_no_order (value (plus 32 p (half 32))))

    turn_most : le_v (value (half 32 + y)) (value p) ≡ le_v (value (plus 32 p (half 32))) (value y)
    turn_most = go (dec_le y INFINITY)
      where
        go : Dec (y ≤ INFINITY) → le_v (value (half 32 + y)) (value p) ≡ le_v (value (plus 32 p (half 32))) (value y)
        go (yes h) =
            ap₂ le_v (turned_over y word) (value_is p)
            ∙ reading_order true (sign p) y (p % 2 ^ 31) h limit.number
            ∙ turn_order true (sign p) y (p % 2 ^ 31)
            ∙ sym (ap₂ le_v turned_sign (plainly y word) ∙ reading_order (not (sign p)) false (p % 2 ^ 31) y limit.number h)
        go (no h) =
            ap (λ (v : Value). le_v v (value p)) (turned_over y word ∙ no_reading true (omega arith))
            ∙ in_no_order (value p)
            ∙ sym (ap (le_v (value (plus 32 p (half 32)))) (plainly y word ∙ no_reading false (omega arith)) ∙ no_order (value (plus 32 p (half 32))))

-- the words of the lower half
pub lower_runs : (low high : ℕ) → IsLimit low → IsLimit high → Runs (in_span low high) (from_of low) (past_of high)
lower_runs low high hl hh = record { end = omega (arith, halved, past_end high hh); is = λ y h. go y h (dec_le y INFINITY) }
  where
    go : (y : ℕ) → y < half 32 → Dec (y ≤ INFINITY) → in_span low high y ≡ (leb (from_of low) y && ltb y (past_of high))
    go y h (yes n) = ap₂ ◌&&◌ (at_least low hl y n) (at_most high hh y n)
    go y h (no n) =
        ap (λ (v : Value). le_v (value low) v && le_v v (value high)) (plainly y h ∙ no_number false y (omega arith) (omega (arith, halved)))
        ∙ ap (λ (b : Bool). b && le_v not_a_number (value high)) (no_order (value low))
        ∙ sym (ap (λ (b : Bool). leb (from_of low) y && b) (le-ltb y (past_of high) (omega (arith, past_end high hh))) ∙ and-false (leb (from_of low) y))

-- and of the upper half, counted inside it
pub upper_runs : (low high : ℕ) → IsLimit low → IsLimit high
    → Runs (λ y. in_span low high (half 32 + y)) (from_of (plus 32 high (half 32))) (past_of (plus 32 low (half 32)))
upper_runs low high hl hh =
    let runs = lower_runs (plus 32 high (half 32)) (plus 32 low (half 32)) (turned_limit high hh) (turned_limit low hl) in
    record { end = runs.end; is = λ y h. turn y h ∙ runs.is y h }
  where
    turn : (y : ℕ) → y < half 32 → in_span low high (half 32 + y) ≡ in_span (plus 32 high (half 32)) (plus 32 low (half 32)) y
    turn y h =
        ap₂ ◌&&◌ (turn_least low hl y h) (turn_most high hh y h)
        ∙ and_comm (le_v (value y) (value (plus 32 low (half 32)))) (le_v (value (plus 32 high (half 32))) (value y))

-- no run leaves its half
pub run_ends : (low high : ℕ) → IsLimit high → ((run_of low high).under ≤ half 32) × ((run_of low high).over ≤ half 32)
unfolding run_of
run_ends low high h = go (dec_lt (from_of low) (past_of high))
  where
    go : Dec (from_of low < past_of high)
        → (cond (ltb (from_of low) (past_of high)) (from_of low) (half 32) ≤ half 32) × (cond (ltb (from_of low) (past_of high)) (past_of high) (half 32) ≤ half 32)
    go (yes l) = rw (lt-ltb (from_of low) (past_of high) l) (omega (arith, halved, past_end high h), omega (arith, halved, past_end high h))
    go (no l) = rw (le-ltb (from_of low) (past_of high) (omega arith)) (omega arith, omega arith)
