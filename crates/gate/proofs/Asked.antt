-- The four rules that the search gives are those that the paper asks for, whatever words fit, and there are no others: a rule of form 3,
-- sense 0 is known by the words that it fails, if it fails any. Assumes nothing.
use mathlib.Core.Path.{◌≡◌, refl, sym, ap, ap₂, fun_ext, ◌∙◌}
use mathlib.Core.Bool.{Bool, true, false, not, ◌&&◌, cond, false≢true}
use mathlib.Core.Logic.{◌⊎◌, inl, inr, ⊎_elim}
use Prim.Native.Nat.{ℕ, suc, ◌+◌, ◌-◌, ◌≤◌, ◌<◌, zero-le}
use native.Mathlib.Nat.{zero-add}
use native.Mathlib.Decide.{dec_lt}
use native.Mathlib.Omega.{arith}
use lib.Dec.{leb, ltb}
use borrow.Author.Tests.{le-leb, le-ltb, leb-true, lt-ltb, ltb-true, not-false}
use Rattle.std.specs.Prelude.{Option}
use Rattle.std.specs.Prelude.{Some, None}
use Rattle.word.specs.Search.{first, last}
use Rattle.word.specs.Word.{half, minus, plus, top}
use Rattle.word.proofs.Searched.{first_is, first_nothing, last_is, last_nothing}
use Rattle.word.proofs.Sums.{minus_word, plus_word}
use Rattle.word.proofs.Tests.{both_pass}
use Rattle.rule.specs.declared.Rule.{Rule}
use Rattle.rule.specs.Meaning.{meets, rule}
use Rattle.gate.specs.declared.Four.{Four}
use Rattle.gate.specs.declared.Gate.{Gate}
use Rattle.gate.specs.Gate.{failing, four_of, gate_rules, listed, over, through, under}
use Rattle.gate.specs.Paper.{FailsJust, FourInOrder, IsFour, Over, Under, in_order}
use Rattle.gate.proofs.FormThree.{fails_between, form_3, one_rule}
use Rattle.gate.proofs.Limits.{halved, whole}

-- the words before a number of words of a half, and those from there on
module _ (fit : ℕ → Bool) (s : ℕ) where
  moved : (y : ℕ) → s ≤ y → fit (s + (y - s)) ≡ fit y
  moved y h = let e : s + (y - s) ≡ y = omega arith in ap fit e

  under_is : (x : ℕ) → Under fit s x → (s ≤ x) × (x < s + under (λ y. fit (s + y)))
  unfolding under
  under_is x u = go (first (λ y. fit (s + y)) (half 32) 0) refl
    where
      go : (r : Option ℕ) → first (λ y. fit (s + y)) (half 32) 0 ≡ r
          → (s ≤ x) × (x < s + elim (first (λ y. fit (s + y)) (half 32) 0) as (λ (r : Option ℕ). ℕ) [ Some y ↦ y | None ↦ half 32 ])
      go (Some y) e = rw e (u.low, out (dec_lt x (s + y)))
        where
          out : Dec (x < s + y) → x < s + y
          out (yes h) = h
          out (no h) = absurd (false≢true (sym (u.none (s + y) (omega arith) (omega arith)) ∙ (first_is (λ y. fit (s + y)) (half 32) 0 y e).passes))
      go None e = rw e (u.low, u.high)

  is_under : (x : ℕ) → s ≤ x → x < s + under (λ y. fit (s + y)) → Under fit s x
  unfolding under
  is_under x l = go (first (λ y. fit (s + y)) (half 32) 0) refl
    where
      go : (r : Option ℕ) → first (λ y. fit (s + y)) (half 32) 0 ≡ r
          → x < s + elim (first (λ y. fit (s + y)) (half 32) 0) as (λ (r : Option ℕ). ℕ) [ Some y ↦ y | None ↦ half 32 ] → Under fit s x
      go (Some y) e h =
          let k : x < s + y = rw e at h in
          let found = first_is (λ y. fit (s + y)) (half 32) 0 y e in
          record {
            low = l;
            high = omega (arith, found.high);
            none = λ z a b. sym (moved z a) ∙ found.none_before (z - s) zero-le (omega arith);
          }
      go None e h =
          let k : x < s + half 32 = rw e at h in
          record { low = l; high = k; none = λ z a b. sym (moved z a) ∙ first_nothing (λ y. fit (s + y)) (half 32) 0 e (z - s) zero-le (omega arith) }

  over_is : (x : ℕ) → Over fit s x → (s + over (λ y. fit (s + y)) ≤ x) × (x < s + half 32)
  unfolding over
  over_is x o = go (last (λ y. fit (s + y)) (half 32)) refl
    where
      go : (r : Option ℕ) → last (λ y. fit (s + y)) (half 32) ≡ r
          → (s + elim (last (λ y. fit (s + y)) (half 32)) as (λ (r : Option ℕ). ℕ) [ Some y ↦ suc y | None ↦ half 32 ] ≤ x) × (x < s + half 32)
      go (Some y) e = rw e (out (dec_lt (s + y) x), o.high)
        where
          found : (y < half 32) × (fit (s + y) ≡ true)
          found = let f = last_is (λ y. fit (s + y)) (half 32) y e in (f.high, f.passes)

          out : Dec (s + y < x) → s + suc y ≤ x
          out (yes h) = omega arith
          out (no h) = absurd (false≢true (sym (o.none (s + y) (omega arith) (omega (arith, found.0))) ∙ found.1))
      go None e =
          let (y, low, high, fits) = o.some in
          absurd (false≢true (sym (last_nothing (λ y. fit (s + y)) (half 32) e (y - s) (omega (arith, o.high))) ∙ moved y low ∙ fits))

  is_over : (x : ℕ) → s + over (λ y. fit (s + y)) ≤ x → x < s + half 32 → Over fit s x
  unfolding over
  is_over x l h = go (last (λ y. fit (s + y)) (half 32)) refl l
    where
      go : (r : Option ℕ) → last (λ y. fit (s + y)) (half 32) ≡ r
          → s + elim (last (λ y. fit (s + y)) (half 32)) as (λ (r : Option ℕ). ℕ) [ Some y ↦ suc y | None ↦ half 32 ] ≤ x → Over fit s x
      go (Some y) e k =
          let b : s + suc y ≤ x = rw e at k in
          let found = last_is (λ y. fit (s + y)) (half 32) y e in
          record {
            some = (s + y, omega arith, omega arith, found.passes);
            high = h;
            none = λ z a c. sym (moved z (omega arith)) ∙ found.none_after (z - s) (omega arith) (omega arith);
          }
      go None e k = let b : s + half 32 ≤ x = rw e at k in absurd (omega arith)

  under_end : under (λ y. fit (s + y)) ≤ half 32
  unfolding under
  under_end = go (first (λ y. fit (s + y)) (half 32) 0) refl
    where
      go : (r : Option ℕ) → first (λ y. fit (s + y)) (half 32) 0 ≡ r
          → elim (first (λ y. fit (s + y)) (half 32) 0) as (λ (r : Option ℕ). ℕ) [ Some y ↦ y | None ↦ half 32 ] ≤ half 32
      go (Some y) e = rw e (omega (arith, (first_is (λ y. fit (s + y)) (half 32) 0 y e).high))
      go None e = rw e (omega arith)

-- the rule for a run of words fails just these
module _ (a b : ℕ) (end : b ≤ suc (top 32)) (part : b ≤ a + top 32) where
  shape : (failing a b ≡ rule 3 0 (minus 32 0 b) (top 32 - (b - a))) ⊎ (failing a b ≡ rule 3 0 0 (top 32))
  unfolding failing
  shape = go (dec_lt a b)
    where
      go : Dec (a < b)
          → (cond (ltb a b) (rule 3 0 (minus 32 0 b) (top 32 - (b - a))) (rule 3 0 0 (top 32)) ≡ rule 3 0 (minus 32 0 b) (top 32 - (b - a)))
          ⊎ (cond (ltb a b) (rule 3 0 (minus 32 0 b) (top 32 - (b - a))) (rule 3 0 0 (top 32)) ≡ rule 3 0 0 (top 32))
      go (yes h) = inl (rw (lt-ltb a b h))
      go (no h) = inr (rw (le-ltb a b (omega arith)))

  module _ (P : ℕ → Type 0) (to : (x : ℕ) → P x → (a ≤ x) × (x < b)) (back : (x : ℕ) → a ≤ x → x < b → P x) where
    fails_just : FailsJust P (failing a b)
    unfolding failing
    fails_just = record {
      form = ⊎_elim (ap (λ (r : Rule). r.form)) (ap (λ (r : Rule). r.form)) shape;
      sense = ⊎_elim (ap (λ (r : Rule). r.sense)) (ap (λ (r : Rule). r.sense)) shape;
      c1_word = ⊎_elim (λ e. omega (arith, ap (λ (r : Rule). r.c1) e, minus_word 32 0 b)) (λ e. omega (arith, ap (λ (r : Rule). r.c1) e)) shape;
      c2_word = ⊎_elim (λ e. omega (arith, ap (λ (r : Rule). r.c2) e)) (λ e. omega (arith, ap (λ (r : Rule). r.c2) e)) shape;
      fails = λ x h p. fails_between a b end part x h ∙ ap not (ap₂ ◌&&◌ (le-leb a x (to x p).0) (lt-ltb x b (to x p).1));
      only = λ x h e.
          let both = both_pass (leb a x) (ltb x b) (not-false (leb a x && ltb x b) (sym (fails_between a b end part x h) ∙ e)) in
          back x (leb-true a x both.0) (ltb-true x b both.1);
      no_word = λ none. go none (dec_lt a b);
    }
      where
        go : ((x : ℕ) → x ≤ top 32 → P x → ⊥) → Dec (a < b) → failing a b ≡ rule 3 0 0 (top 32)
        go none (yes h) = absurd (none a (omega arith) (back a (omega arith) h))
        go none (no h) = rw (le-ltb a b (omega arith))

pub from_zero : (fit : ℕ → Bool) → (λ y. fit (0 + y)) ≡ fit
from_zero fit = fun_ext (λ y. ap fit (zero-add y))

-- the lower half starts at 0, and the upper one ends at the top word
pub is_four : (fit : ℕ → Bool) → IsFour fit (four_of fit)
unfolding four_of
is_four fit =
    let u : under (λ y. fit (0 + y)) ≡ under fit = ap under (from_zero fit) in
    let o : over (λ y. fit (0 + y)) ≡ over fit = ap over (from_zero fit) in
    let below : under fit ≤ top 32 = omega (arith, under_end fit 0, u, halved, whole) in
    let above : under (λ y. fit (half 32 + y)) ≤ half 32 = under_end fit (half 32) in
    record {
      first =
          fails_just 0 (under fit) (omega arith) (omega arith) (Under fit 0)
          (λ x a. let p = under_is fit 0 x a in (p.0, omega (arith, p.1, u)))
          (λ x a b. is_under fit 0 x a (omega (arith, u)));
      second =
          fails_just (over fit) (half 32) (omega (arith, halved, whole)) (omega (arith, halved, whole)) (Over fit 0)
          (λ x a. let p = over_is fit 0 x a in (omega (arith, p.0, o), omega (arith, p.1)))
          (λ x a b. is_over fit 0 x (omega (arith, o)) (omega arith));
      third =
          fails_just (half 32) (half 32 + under (λ y. fit (half 32 + y))) (omega (arith, halved, whole)) (omega (arith, halved, whole)) (Under fit (half 32))
          (under_is fit (half 32))
          (is_under fit (half 32));
      fourth =
          fails_just (half 32 + over (λ y. fit (half 32 + y))) (half 32 + half 32) (omega (arith, halved, whole)) (omega (arith, halved, whole)) (Over fit (half 32))
          (over_is fit (half 32))
          (is_over fit (half 32));
    }

-- a gate's rules are these four, in the paper's order
pub four_in_order : (g : Gate) → FourInOrder (through g) (gate_rules g)
unfolding gate_rules listed
four_in_order g = in_order (four_of (through g)) (is_four (through g))

-- "and no other": two rules that fail just the same words are one
module _ (P : ℕ → Type 0) (r q : Rule) (is : FailsJust P r) (was : FailsJust P q) where
  as_rule : (t : Rule) → FailsJust P t → t ≡ rule 3 0 t.c1 t.c2
  as_rule t f = ap₂ (λ (form sense : ℕ). rule form sense t.c1 t.c2) f.form f.sense

  as_sum : (t : Rule) → FailsJust P t → (x : ℕ) → meets 32 t x ≡ leb (plus 32 t.c1 x) t.c2
  as_sum t f x = ap (λ (t : Rule). meets 32 t x) (as_rule t f) ∙ form_3 32 t.c1 t.c2 x

  alike : (x : ℕ) → x ≤ top 32 → (a b : Bool) → meets 32 r x ≡ a → meets 32 q x ≡ b → a ≡ b
  alike x h true true d e = refl
  alike x h true false d e = absurd (false≢true (sym (is.fails x h (was.only x h e)) ∙ d))
  alike x h false true d e = absurd (false≢true (sym (was.fails x h (is.only x h d)) ∙ e))
  alike x h false false d e = refl

  pub one_only : r ≡ q
  one_only = go (dec_lt r.c2 (top 32))
    where
      same : (x : ℕ) → x ≤ top 32 → leb (plus 32 r.c1 x) r.c2 ≡ leb (plus 32 q.c1 x) q.c2
      same x h = sym (as_sum r is x) ∙ alike x h (meets 32 r x) (meets 32 q x) refl refl ∙ as_sum q was x

      go : Dec (r.c2 < top 32) → r ≡ q
      go (yes h) =
          as_rule r is
          ∙ one_rule 32 r.c1 r.c2 q.c1 q.c2 is.c1_word h was.c1_word was.c2_word same
          ∙ sym (as_rule q was)
      go (no h) = is.no_word none ∙ sym (was.no_word none)
        where
          none : (x : ℕ) → x ≤ top 32 → P x → ⊥
          none x w p =
              false≢true
              (sym (is.fails x w p) ∙ as_sum r is x ∙ le-leb (plus 32 r.c1 x) r.c2 (omega (arith, plus_word 32 r.c1 x)))

-- so the paper's words have one answer
pub four_only : (fit : ℕ → Bool) (f g : Four) → IsFour fit f → IsFour fit g → f ≡ g
four_only fit f g a b =
    ap₂ (λ (x y : Rule). mk x y f.third f.fourth) (one_only _ _ _ a.first b.first) (one_only _ _ _ a.second b.second)
    ∙ ap₂ (mk g.first g.second) (one_only _ _ _ a.third b.third) (one_only _ _ _ a.fourth b.fourth)
  where
    mk : Rule → Rule → Rule → Rule → Four
    mk a b c d = record { first = a; second = b; third = c; fourth = d }
