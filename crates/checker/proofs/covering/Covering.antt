-- The clauses say that the links cover the wheel: one past the largest end so far is how many words are covered from 0 on, so no gap
-- is a link that starts at or below it, and the top word reached is all words covered. By induction on the links.
-- Assumes nothing.
use mathlib.Core.Path.{◌≡◌, refl, ap, ap₂, subst}
use mathlib.Core.Bool.{Bool, true, false, false≢true, not, ◌&&◌, ◌||◌}
use mathlib.Core.Logic.{◌⊎◌, inl, inr}
use mathlib.Core.List.{List, [], ◌∷◌}
use Prim.Native.Nat.{ℕ, suc, max, ◌≤◌}
use native.Mathlib.Omega.{arith}
use borrow.Author.Tests.{eq-eqb, eqb-false, eqb-true, le-leb, leb-true, lt-ltb, ltb-true, ne_eqb, not-true}
use lib.Dec.{eqb, leb, ltb}
use lib.ListN.{length}
use Rattle.word.specs.Word.{top}
use Rattle.word.proofs.Tests.{both_pass}
use Rattle.rule.specs.declared.Rule.{Rule}
use Rattle.rule.specs.Meaning.{meets, meets7}
use Rattle.rule.specs.accept.Accept.{every}
use Rattle.chain.specs.declared.Link.{Link}
use Rattle.chain.specs.Chain.{Covers, Shows}
use Rattle.chain.specs.Chain.Covers.{end, on}
use Rattle.chain.specs.Links.{BITS, nth}
use Rattle.checker.specs.covering.Check.{in_order, largest_end, names_bits, names_rule, no_gap, right_reason, shown}
use Rattle.checker.proofs.covering.EveryWord.{each_every, every_each}

either : (a b : Bool) → (a || b) ≡ true → (a ≡ true) ⊎ (b ≡ true)
either true b e = inl refl
either false b e = inr e

left_true : (a b : Bool) → a ≡ true → (a || b) ≡ true
left_true a b e = ap (λ (c : Bool). c || b) e

right_true : (a b : Bool) → b ≡ true → (a || b) ≡ true
right_true true b e = refl
right_true false b e = e

module _ (w : ℕ) (rs : List Rule) where
  -- ---- one link

  pub order_is : (l : Link) → in_order w l ≡ true → (l.from ≤ l.to) × (l.to ≤ top w)
  unfolding in_order
  order_is l e = let t = both_pass (leb l.from l.to) (leb l.to (top w)) e in (leb-true _ _ t.0, leb-true _ _ t.1)

  pub shows_is : (l : Link) → (l.from ≤ l.to) × (l.to ≤ top w) → right_reason w rs l ≡ true → Shows w rs l
  unfolding right_reason names_rule names_bits
  shows_is l order r = go (either (names_rule w rs l) (names_bits w rs l) r)
    where
      go : (names_rule w rs l ≡ true) ⊎ (names_bits w rs l ≡ true) → Shows w rs l
      go (inl e) =
          let there = both_pass (ltb l.reason (length rs)) _ e in
          let other = both_pass (not (eqb (nth rs l.reason).form 7)) _ there.1 in
          inl
          (record {
            plain = record {
              there = ltb-true _ _ there.0;
              other = eqb-false _ _ (not-true _ other.0);
            };
            order = order.0;
            word = order.1;
            each = λ x a b. not-true _ (every_each (λ (y : ℕ). not (meets w (nth rs l.reason) y)) l.from l.to other.1 x a b);
          })
      go (inr e) =
          let here = both_pass (eqb l.reason BITS) _ e in
          inr (
            eqb-true _ _ here.0,
            record {
              order = order.0;
              word = order.1;
              each = λ x a b. not-true _ (every_each (λ (y : ℕ). not (meets7 w rs y)) l.from l.to here.1 x a b);
            },
          )

  pub shows_order : (l : Link) → Shows w rs l → (l.from ≤ l.to) × (l.to ≤ top w)
  shows_order l (inl f) = (f.order, f.word)
  shows_order l (inr f) = (f.1.order, f.1.word)

  pub order_shown : (l : Link) → Shows w rs l → in_order w l ≡ true
  unfolding in_order
  order_shown l s = let t = shows_order l s in ap₂ ◌&&◌ (le-leb _ _ t.0) (le-leb _ _ t.1)

  pub shows_reason : (l : Link) → Shows w rs l → right_reason w rs l ≡ true
  unfolding right_reason names_rule names_bits
  shows_reason l (inl f) =
      left_true (names_rule w rs l) (names_bits w rs l)
      (ap₂ ◌&&◌ (lt-ltb _ _ f.plain.there)
      (ap₂ ◌&&◌ (ap not (ne_eqb _ _ f.plain.other)) (each_every _ l.from l.to (λ x a b. ap not (f.each x a b)))))
  shows_reason l (inr f) =
      right_true (names_rule w rs l) (names_bits w rs l) (ap₂ ◌&&◌ (eq-eqb _ _ f.0) (each_every _ l.from l.to (λ x a b. ap not (f.1.each x a b))))

  -- ---- the links after the first, where e is the largest end before them

  pub record Later (e : ℕ) (ls : List Link) : Type 0 where
    pub orders : every (in_order w) ls ≡ true
    pub closed : no_gap e ls ≡ true
    pub whole : largest_end e ls ≡ top w
    pub reasons : every (right_reason w rs) ls ≡ true

  later_covers : (e : ℕ) (ls : List Link) → Later e ls → Covers w rs (suc e) ls
  unfolding every no_gap largest_end
  later_covers e [] h = end (ap suc h.whole)
  later_covers e (l ∷ ls) h =
      let o = both_pass (in_order w l) (every (in_order w) ls) h.orders in
      let g = both_pass (leb l.from (suc e)) (no_gap (max e l.to) ls) h.closed in
      let r = both_pass (right_reason w rs l) (every (right_reason w rs) ls) h.reasons in
      let more : suc (max e l.to) ≡ max (suc e) (suc l.to) = omega arith in
      on (leb-true _ _ g.0) (shows_is l (order_is l o.0) r.0)
      (subst (λ (n : ℕ). Covers w rs n ls) more
      (later_covers (max e l.to) ls (record { orders = o.1; closed = g.1; whole = h.whole; reasons = r.1 })))

  covers_later : (e : ℕ) (ls : List Link) → Covers w rs (suc e) ls → Later e ls
  unfolding every no_gap largest_end
  covers_later e [] (end d) = record { orders = refl; closed = refl; whole = omega arith; reasons = refl }
  covers_later e (l ∷ ls) (on a s c) =
      let more : max (suc e) (suc l.to) ≡ suc (max e l.to) = omega arith in
      let t = covers_later (max e l.to) ls (subst (λ (n : ℕ). Covers w rs n ls) more c) in
      record {
        orders = ap₂ ◌&&◌ (order_shown l s) t.orders;
        closed = ap₂ ◌&&◌ (le-leb _ _ a) t.closed;
        whole = t.whole;
        reasons = ap₂ ◌&&◌ (shows_reason l s) t.reasons;
      }

  -- ---- all of them

  pub shown_covers : (ls : List Link) → shown w rs ls ≡ true → Covers w rs 0 ls
  unfolding shown every
  shown_covers [] e = absurd (false≢true e)
  shown_covers (l ∷ ls) e =
      let orders = both_pass (every (in_order w) (l ∷ ls)) _ e in
      let first = both_pass (eqb l.from 0) _ orders.1 in
      let closed = both_pass (no_gap l.to ls) _ first.1 in
      let whole = both_pass (eqb (largest_end l.to ls) (top w)) _ closed.1 in
      let o = both_pass (in_order w l) (every (in_order w) ls) orders.0 in
      let r = both_pass (right_reason w rs l) (every (right_reason w rs) ls) whole.1 in
      let start : l.from ≤ 0 = omega (arith, eqb-true l.from 0 first.0) in
      let one : suc l.to ≡ max 0 (suc l.to) = omega arith in
      on start (shows_is l (order_is l o.0) r.0)
      (subst (λ (n : ℕ). Covers w rs n ls) one
      (later_covers l.to ls (record { orders = o.1; closed = closed.0; whole = eqb-true _ _ whole.0; reasons = r.1 })))

  pub covers_shown : (ls : List Link) → Covers w rs 0 ls → shown w rs ls ≡ true
  unfolding shown every
  covers_shown [] (end d) = absurd (omega arith)
  covers_shown (l ∷ ls) (on a s c) =
      let one : max 0 (suc l.to) ≡ suc l.to = omega arith in
      let t = covers_later l.to ls (subst (λ (n : ℕ). Covers w rs n ls) one c) in
      let start : l.from ≡ 0 = omega arith in
      ap₂ ◌&&◌ (ap₂ ◌&&◌ (order_shown l s) t.orders)
      (ap₂ ◌&&◌ (eq-eqb _ _ start)
      (ap₂ ◌&&◌ t.closed (ap₂ ◌&&◌ (eq-eqb _ _ t.whole) (ap₂ ◌&&◌ (shows_reason l s) t.reasons))))
