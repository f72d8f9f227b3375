-- What every outcome of a join has, in the paper's words. A refusal and an empty cut give the intervals back; no new interval goes
-- outside its old one, since a cut only takes words away; and no solution is lost, since h is a result of its arguments, and x and y
-- are results of the inverse operation. Assumes nothing.
use mathlib.Core.Path.{◌≡◌, refl, sym, ap, subst, ◌∙◌}
use mathlib.Core.Bool.{Bool, true, false, cond, true≢false}
use Prim.Native.Nat.{ℕ}
use native.Mathlib.Decide.{ℕ_discrete}
use native.Mathlib.Omega.{arith}
use borrow.Author.Tests.{eq-eqb, ne_eqb}
use lib.Bits.{bit_xor, xor_comm}
use Rattle.word.specs.Word.{top}
use Rattle.span.specs.declared.interval.Interval.{Interval}
use Rattle.span.specs.declared.Joined.{Joined}
use Rattle.span.specs.declared.interval.Op.{Op}
use Rattle.span.specs.declared.interval.Op.TheVariants.{And, Not, Or, Xor}
use Rattle.span.specs.Demand.{CutBy, Cuts, CutsX, CutsY, Exact, GivesX, GivesY, InSecond, Inside, Solves}
use Rattle.span.specs.interval.Interval.{In, Words, cut, hollow}
use Rattle.span.specs.Join.{all_cut, any_hollow, as_given, emptied, joined, new_h, new_x, new_y, refusal}
use Rattle.span.specs.interval.Op.{inverted, result, second}
use Rattle.span.specs.extent.Span.{span}
use Rattle.span.proofs.Exact.{exact_unique, span_exact}
use Rattle.span.proofs.interval.Intervals.{in_cut, not_hollow}
use Rattle.span.proofs.Joining.{Accepted, accepted}
use Rattle.span.proofs.extent.Ops.{xor_back, xor_back_left}

same : (i : Interval) → Inside i i
same i = record { low = omega arith; high = omega arith }

cut_inside : (i j : Interval) → Inside (cut i j) i
unfolding cut
cut_inside i j = record { low = omega arith; high = omega arith }

-- NOT and XOR are their own inverses
pub not_inverts : (w : ℕ) → GivesX w Not Not
unfolding result
not_inverts w = record { to = λ c a b e. back a c e; from = λ c a b e. back c a e }
  where
    back : (a c : ℕ) → c ≡ bit_xor a (top w) → a ≡ bit_xor c (top w)
    back a c e = sym (ap (λ (n : ℕ). bit_xor n (top w)) e ∙ xor_back a (top w))

pub xor_inverts : (w : ℕ) → GivesX w Xor Xor
unfolding result
xor_inverts w = record { to = λ c a b e. back a b c e; from = λ c a b e. back c b a e }
  where
    back : (a b c : ℕ) → c ≡ bit_xor a b → a ≡ bit_xor c b
    back a b c e = sym (ap (λ (n : ℕ). bit_xor n b) e ∙ xor_back a b)

pub xor_inverts_y : (w : ℕ) → GivesY w Xor Xor
unfolding result
xor_inverts_y w =
    record {
      to = λ c a b e. sym (ap (λ (n : ℕ). bit_xor n a) e ∙ xor_back_left a b);
      from = λ c a b e. sym (ap (bit_xor a) e ∙ xor_comm a (bit_xor c a) ∙ xor_back c a);
    }

-- operation by operation
module _ (w : ℕ) (h x y : Interval) where
  x_inside : (op : Op) → Inside (new_x w op h x y) x
  unfolding new_x inverted
  x_inside Not = cut_inside x (span w Not h y)
  x_inside And = same x
  x_inside Or = same x
  x_inside Xor = cut_inside x (span w Xor h y)

  y_inside : (op : Op) → Inside (new_y w op h x y) y
  unfolding new_y inverted
  y_inside Not = same y
  y_inside And = same y
  y_inside Or = same y
  y_inside Xor = cut_inside y (span w Xor h x)

-- every result lies in the span
between : {w : ℕ} (op : Op) {x : Interval} (y : Interval) → Words w x → Words w (second op y) → (a b : ℕ) → In x a → In (second op y) b
    → In (span w op x y) (result w op a b)
between op y mx my a b i j =
    let e = span_exact op y mx my in record { low = e.low.least a b i j; high = e.high.greatest a b i j }

result_in : {w : ℕ} (op : Op) {x : Interval} (y : Interval) → Words w x → Words w (second op y) → (a b : ℕ) → In x a → InSecond op y b
    → In (span w op x y) (result w op a b)
unfolding InSecond second result
result_in Not y mx my a b i j = between Not y mx my a 0 i (record { low = omega arith; high = omega arith })
result_in And y mx my a b i j = between And y mx my a b i j
result_in Or y mx my a b i j = between Or y mx my a b i j
result_in Xor y mx my a b i j = between Xor y mx my a b i j

module _ {w : ℕ} {h x y : Interval} {c a b : ℕ} where
  new_x_lem : (op : Op) → Accepted w h x (second op y) → Solves w op h x y c a b → In (new_x w op h x y) a
  unfolding new_x inverted InSecond second result
  new_x_lem Not m s =
      let e : result w Not c b ≡ a = sym ((not_inverts w).to c a b s.joins) in
      in_cut s.in_x (subst (In (span w Not h y)) e (result_in Not y m.h_words m.y_words c b s.in_h tt))
  new_x_lem And m s = s.in_x
  new_x_lem Or m s = s.in_x
  new_x_lem Xor m s =
      let e : bit_xor c b ≡ a = sym ((xor_inverts w).to c a b s.joins) in
      in_cut s.in_x (subst (In (span w Xor h y)) e (result_in Xor y m.h_words m.y_words c b s.in_h s.in_y))

  new_y_lem : (op : Op) → Accepted w h x (second op y) → Solves w op h x y c a b → InSecond op (new_y w op h x y) b
  unfolding new_y inverted InSecond second result
  new_y_lem Not m s = tt
  new_y_lem And m s = s.in_y
  new_y_lem Or m s = s.in_y
  new_y_lem Xor m s =
      let e : bit_xor c a ≡ b = sym ((xor_inverts_y w).to c a b s.joins) in
      in_cut s.in_y (subst (In (span w Xor h x)) e (result_in Xor x m.h_words m.x_words c a s.in_h s.in_x))

-- no two cuts by exact spans differ
one_cut : {w : ℕ} {op : Op} {x y old i j : Interval} → CutBy w op x y old i → CutBy w op x y old j → i ≡ j
one_cut {old = old} p q = p.is ∙ ap (cut old) (exact_unique p.exact q.exact) ∙ sym q.is

module _ (w : ℕ) (h x y : Interval) where
  x_by : (op : Op) → Accepted w h x (second op y) → CutsX w op h x y (new_x w op h x y)
  unfolding new_x inverted CutsX
  x_by Not m = record { span = span w Not h y; exact = span_exact Not y m.h_words m.y_words; is = refl }
  x_by And m = refl
  x_by Or m = refl
  x_by Xor m = record { span = span w Xor h y; exact = span_exact Xor y m.h_words m.y_words; is = refl }

  y_by : (op : Op) → Accepted w h x (second op y) → CutsY w op h x y (new_y w op h x y)
  unfolding new_y inverted CutsY second
  y_by Not m = refl
  y_by And m = refl
  y_by Or m = refl
  y_by Xor m = record { span = span w Xor h x; exact = span_exact Xor x m.h_words m.x_words; is = refl }

  one_x : (op : Op) {i j : Interval} → CutsX w op h x y i → CutsX w op h x y j → i ≡ j
  unfolding CutsX
  one_x Not p q = one_cut p q
  one_x And p q = p ∙ sym q
  one_x Or p q = p ∙ sym q
  one_x Xor p q = one_cut p q

  one_y : (op : Op) {i j : Interval} → CutsY w op h x y i → CutsY w op h x y j → i ≡ j
  unfolding CutsY
  one_y Not p q = p ∙ sym q
  one_y And p q = p ∙ sym q
  one_y Or p q = p ∙ sym q
  one_y Xor p q = one_cut p q

second_not_hollow : (op : Op) (i : Interval) (b : ℕ) → InSecond op i b → hollow (second op i) ≡ false
unfolding InSecond second
second_not_hollow Not i b m = not_hollow {a = 0} (record { low = omega arith; high = omega arith })
second_not_hollow And i b m = not_hollow m
second_not_hollow Or i b m = not_hollow m
second_not_hollow Xor i b m = not_hollow m

module _ (w : ℕ) (op : Op) (h x y : Interval) where
  -- two outcomes that satisfy the statement are equal
  pub one_outcome : {r s : Joined} → r ≡ joined w op h x y → s ≡ joined w op h x y → r ≡ s
  one_outcome p q = p ∙ sym q

  -- "A refusal ... gives the intervals back as they came", with its number
  pub refusal_gives_back : (refusal w op h x y ≡ 0 → ⊥) → joined w op h x y ≡ as_given (refusal w op h x y) false h x y
  unfolding joined
  refusal_gives_back n = rw (ne_eqb (refusal w op h x y) 0 n)

  -- "If a cut is empty the answer is empty", and ""empty" gives the intervals back as they came"
  pub empty_gives_back : refusal w op h x y ≡ 0 → emptied w op h x y ≡ true → joined w op h x y ≡ as_given 0 true h x y
  unfolding joined
  empty_gives_back z e = rw (eq-eqb (refusal w op h x y) 0 z, e)

  pub else_cut : refusal w op h x y ≡ 0 → emptied w op h x y ≡ false → joined w op h x y ≡ all_cut w op h x y
  unfolding joined
  else_cut z e = rw (eq-eqb (refusal w op h x y) 0 z, e)

  -- the number of the answer is that of the refusal, or 0
  pub number_is : (joined w op h x y).number ≡ refusal w op h x y
  unfolding joined as_given all_cut
  number_is = go (ℕ_discrete (refusal w op h x y) 0) (emptied w op h x y) refl
    where
      go : Dec (refusal w op h x y ≡ 0) → (e : Bool) → emptied w op h x y ≡ e → (joined w op h x y).number ≡ refusal w op h x y
      go (no n) e d = rw (ne_eqb (refusal w op h x y) 0 n)
      go (yes z) true d = rw (eq-eqb (refusal w op h x y) 0 z, d) (sym z)
      go (yes z) false d = rw (eq-eqb (refusal w op h x y) 0 z, d) (sym z)

  -- "no new interval goes outside its old one"
  pub inside : Inside (joined w op h x y).h h × (Inside (joined w op h x y).x x × Inside (joined w op h x y).y y)
  unfolding joined as_given all_cut new_h
  inside = go (ℕ_discrete (refusal w op h x y) 0) (emptied w op h x y) refl
    where
      go : Dec (refusal w op h x y ≡ 0) → (e : Bool) → emptied w op h x y ≡ e
          → Inside (joined w op h x y).h h × (Inside (joined w op h x y).x x × Inside (joined w op h x y).y y)
      go (no n) e d = rw (ne_eqb (refusal w op h x y) 0 n) (same h, (same x, same y))
      go (yes z) true d = rw (eq-eqb (refusal w op h x y) 0 z, d) (same h, (same x, same y))
      go (yes z) false d =
          rw (eq-eqb (refusal w op h x y) 0 z, d) (cut_inside h (span w op x y), (x_inside w h x y op, y_inside w h x y op))

  module _ (z : refusal w op h x y ≡ 0) where
    taken : Accepted w h x (second op y)
    unfolding refusal
    taken = accepted z

    -- "h's new one is its old one cut with the span ... exactly"
    pub h_cut : {s : Interval} → Exact w op x y s → new_h w op h x y ≡ cut h s
    unfolding new_h
    h_cut e = ap (cut h) (exact_unique (span_exact op y taken.x_words taken.y_words) e)

    -- "the arguments are cut in the same way by the inverse operation; for AND and OR they stay"
    pub x_cut : {i : Interval} → CutsX w op h x y i → new_x w op h x y ≡ i
    x_cut c = one_x w h x y op (x_by w h x y op taken) c

    pub y_cut : {i : Interval} → CutsY w op h x y i → new_y w op h x y ≡ i
    y_cut c = one_y w h x y op (y_by w h x y op taken) c

    -- there are such cuts
    pub cuts : Cuts w op h x y (new_h w op h x y) (new_x w op h x y) (new_y w op h x y)
    unfolding new_h
    cuts =
        record {
          h_cut = record { span = span w op x y; exact = span_exact op y taken.x_words taken.y_words; is = refl };
          x_cut = x_by w h x y op taken;
          y_cut = y_by w h x y op taken;
        }

    -- and from any of them the answer: "If a cut is empty the answer is "empty"", with the intervals as they came, and else the cuts
    pub answer_is : {i j k : Interval} → Cuts w op h x y i j k → joined w op h x y
        ≡ cond (any_hollow i j (second op k)) (record { number = 0; empty = true; h = h; x = x; y = y })
        (record { number = 0; empty = false; h = i; x = j; y = k })
    unfolding joined emptied as_given all_cut
    answer_is c =
        rw (eq-eqb (refusal w op h x y) 0 z, h_cut c.h_cut.exact ∙ sym c.h_cut.is, x_cut c.x_cut, y_cut c.y_cut) refl

    -- "No solution inside the given intervals is lost"
    pub kept : {c a b : ℕ} → Solves w op h x y c a b
        → ((joined w op h x y).empty ≡ false) × Solves w op (joined w op h x y).h (joined w op h x y).x (joined w op h x y).y c a b
    unfolding emptied any_hollow new_h all_cut
    kept {c} {a} {b} s =
        subst (λ (r : Joined). (r.empty ≡ false) × Solves w op r.h r.x r.y c a b) (sym (else_cut z full))
        (refl, record { in_h = in_h; in_x = in_x; in_y = in_y; joins = s.joins })
      where
        in_h : In (new_h w op h x y) c
        in_h =
            in_cut s.in_h (subst (In (span w op x y)) (sym s.joins) (result_in op y taken.x_words taken.y_words a b s.in_x s.in_y))

        in_x : In (new_x w op h x y) a
        in_x = new_x_lem op taken s

        in_y : InSecond op (new_y w op h x y) b
        in_y = new_y_lem op taken s

        full : emptied w op h x y ≡ false
        full = rw (not_hollow in_h, not_hollow in_x, second_not_hollow op (new_y w op h x y) b in_y)

    -- so where a cut is empty there is none
    pub empty_none : emptied w op h x y ≡ true → {c a b : ℕ} → Solves w op h x y c a b → ⊥
    unfolding as_given
    empty_none e s = true≢false (sym (ap (λ (r : Joined). r.empty) (empty_gives_back z e)) ∙ (kept s).0)
