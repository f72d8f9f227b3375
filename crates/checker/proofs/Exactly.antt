-- The check says yes exactly where the paper's clauses hold: each test of a list is its clause said of every link, and a list whose
-- length is a multiple of three is the numbers of its links. Assumes nothing.
use mathlib.Core.Path.{◌≡◌, refl, sym, ap, ap₂, ◌∙◌, subst}
use mathlib.Core.Bool.{Bool, true, false≢true, not, ◌&&◌}
use mathlib.Core.List.{List, [], ◌∷◌}
use Prim.Native.Nat.{ℕ, zero, suc, max, ◌%◌, ◌≤◌, ◌<◌}
use native.Mathlib.Omega.{arith}
use borrow.Author.Tests.{eq-eqb, eqb-false, eqb-true, le-leb, leb-true, ne_eqb, not-true}
use lib.Dec.{eqb, leb}
use lib.ListN.{length, take}
use Rattle.word.specs.Word.{top}
use Rattle.word.proofs.Tests.{both_pass}
use Rattle.rule.specs.declared.Rule.{Rule}
use Rattle.rule.specs.Meaning.{RULES}
use Rattle.rule.specs.accept.Accept.{every}
use Rattle.chain.specs.declared.Link.{Link}
use Rattle.chain.specs.Links.{link, numbers_of}
use Rattle.chain.proofs.Walk.{numbers_length}
use Rattle.sheet.specs.declared.Sheet.{Sheet}
use Rattle.page.specs.Page.{MARKS}
use Rattle.sheet.specs.route.Shape.{is_sheet}
use Rattle.sheet.proofs.Tested.{passes_sheet, sheet_passes}
use Rattle.checker.specs.Accepted.{Accepted, ShownBy, link_no}
use Rattle.checker.specs.covering.Check.{in_order, largest_end, links_in, no_gap, right_reason, shown, shown_by}
use Rattle.checker.specs.Check.{accepts}
use Rattle.checker.proofs.covering.Covering.{order_is, order_shown, shows_is, shows_reason}

-- ---- a test of every link

module _ (f : Link → Bool) where
  every_no : (ls : List Link) → every f ls ≡ true → (i : ℕ) → i < length ls → f (link_no ls i) ≡ true
  unfolding every
  every_no [] e i h = absurd (omega arith)
  every_no (l ∷ ls) e zero h = (both_pass (f l) (every f ls) e).0
  every_no (l ∷ ls) e (suc i) h = every_no ls (both_pass (f l) (every f ls) e).1 i (omega arith)

  no_every : (ls : List Link) → ((i : ℕ) → i < length ls → f (link_no ls i) ≡ true) → every f ls ≡ true
  unfolding every
  no_every [] h = refl
  no_every (l ∷ ls) h = ap₂ ◌&&◌ (h 0 (omega arith)) (no_every ls (λ i a. h (suc i) (omega arith)))

gap_no : (e : ℕ) (ls : List Link) → no_gap e ls ≡ true → (i : ℕ) → i < length ls → (link_no ls i).from ≤ suc (largest_end e (take i ls))
unfolding no_gap largest_end
gap_no e [] g i h = absurd (omega arith)
gap_no e (l ∷ ls) g zero h = leb-true l.from (suc e) (both_pass (leb l.from (suc e)) _ g).0
gap_no e (l ∷ ls) g (suc i) h = gap_no (max e l.to) ls (both_pass (leb l.from (suc e)) _ g).1 i (omega arith)

no_gap_lem : (e : ℕ) (ls : List Link) → ((i : ℕ) → i < length ls → (link_no ls i).from ≤ suc (largest_end e (take i ls))) → no_gap e ls ≡ true
unfolding no_gap largest_end
no_gap_lem e [] h = refl
no_gap_lem e (l ∷ ls) h =
    ap₂ ◌&&◌ (le-leb l.from (suc e) (h 0 (omega arith))) (no_gap_lem (max e l.to) ls (λ i a. h (suc i) (omega arith)))

-- ---- the clauses

module _ (w : ℕ) (rs : List Rule) where
  shown_by_lem : (ls : List Link) → shown w rs ls ≡ true → ShownBy w rs ls
  unfolding shown largest_end
  shown_by_lem [] e = absurd (false≢true e)
  shown_by_lem (l ∷ ls) e =
      let orders = both_pass (every (in_order w) (l ∷ ls)) _ e in
      let first = both_pass (eqb l.from 0) _ orders.1 in
      let closed = both_pass (no_gap l.to ls) _ first.1 in
      let whole = both_pass (eqb (largest_end l.to ls) (top w)) _ closed.1 in
      let one : l.to ≡ max 0 l.to = omega arith in
      let order : (i : ℕ) → i < length (l ∷ ls) → ((link_no (l ∷ ls) i).from ≤ (link_no (l ∷ ls) i).to) × ((link_no (l ∷ ls) i).to ≤ top w) =
      λ i h. order_is w rs _ (every_no (in_order w) (l ∷ ls) orders.0 i h) in
      record {
        some = omega arith;
        in_order = λ i h. record { order = (order i h).0; word = (order i h).1 };
        first = eqb-true l.from 0 first.0;
        later = λ i z h. later_no i z h one closed.0;
        whole = ap (λ (e : ℕ). largest_end e ls) (sym one) ∙ eqb-true _ _ whole.0;
        reasons = λ i h. shows_is w rs _ (order i h) (every_no (right_reason w rs) (l ∷ ls) whole.1 i h);
      }
    where
      later_no : (i : ℕ) → 0 < i → i < length (l ∷ ls) → l.to ≡ max 0 l.to → no_gap l.to ls ≡ true → (link_no (l ∷ ls) i).from ≤ suc (largest_end 0 (take i (l ∷ ls)))
      later_no zero z h one g = absurd (omega arith)
      later_no (suc i) z h one g =
          subst (λ (e : ℕ). (link_no ls i).from ≤ suc (largest_end e (take i ls))) one (gap_no l.to ls g i (omega arith))

  by_shown : (ls : List Link) → ShownBy w rs ls → shown w rs ls ≡ true
  unfolding shown largest_end
  by_shown [] h = absurd (omega (arith, h.some))
  by_shown (l ∷ ls) h =
      let one : max 0 l.to ≡ l.to = omega arith in
      ap₂ ◌&&◌ (no_every (in_order w) (l ∷ ls) (λ i a. order_shown w rs _ (h.reasons i a)))
      (ap₂ ◌&&◌ (eq-eqb _ _ h.first)
      (ap₂ ◌&&◌
      (no_gap_lem l.to ls (λ i a. subst (λ (e : ℕ). (link_no ls i).from ≤ suc (largest_end e (take i ls))) one (h.later (suc i) (omega arith) (omega arith))))
      (ap₂ ◌&&◌ (eq-eqb _ _ (ap (λ (e : ℕ). largest_end e ls) (sym one) ∙ h.whole))
      (no_every (right_reason w rs) (l ∷ ls) (λ i a. shows_reason w rs _ (h.reasons i a))))))

-- ---- three numbers a link

pub links_of : (ls : List Link) → links_in (numbers_of ls) ≡ ls
unfolding links_in numbers_of
links_of [] = refl
links_of (l ∷ ls) = ap (λ (ms : List Link). link l.from l.to l.reason ∷ ms) (links_of ls)

pub in_threes : (ls : List Link) → length (numbers_of ls) % 3 ≡ 0
in_threes ls = omega (arith, numbers_length ls)

numbers_of_lem : (ns : List ℕ) → length ns % 3 ≡ 0 → ns ≡ numbers_of (links_in ns)
unfolding links_in numbers_of
numbers_of_lem [] e = refl
numbers_of_lem (a ∷ []) e = absurd (omega arith)
numbers_of_lem (a ∷ b ∷ []) e = absurd (omega arith)
numbers_of_lem (a ∷ b ∷ c ∷ ns) e = ap (λ (ms : List ℕ). a ∷ b ∷ c ∷ ms) (numbers_of_lem ns (omega arith))

-- ---- the whole

module _ (s : Sheet) (ns : List ℕ) where
  pub accepted_yes : Accepted s ns → accepts s ns ≡ true
  unfolding accepts shown_by
  accepted_yes a =
      let rs = take s.count s.rules in
      ap₂ ◌&&◌ (sheet_passes s a.sheet)
      (ap₂ ◌&&◌ (ap not (ne_eqb s.width 0 a.not_blank))
      (rw a.threes (ap₂ ◌&&◌ (eq-eqb _ 0 (in_threes a.links)) (ap (shown s.width rs) (links_of a.links) ∙ by_shown s.width rs a.links a.shown))))

  pub yes_accepted : length s.rules ≡ RULES → length s.marks ≡ MARKS → accepts s ns ≡ true → Accepted s ns
  unfolding accepts shown_by
  yes_accepted rules marks e =
      let rs = take s.count s.rules in
      let sheet = both_pass (is_sheet s) _ e in
      let opened = both_pass (not (eqb s.width 0)) _ sheet.1 in
      let threes = both_pass (eqb (length ns % 3) 0) (shown s.width rs (links_in ns)) opened.1 in
      record {
        sheet = passes_sheet s rules marks sheet.0;
        not_blank = eqb-false _ _ (not-true _ opened.0);
        links = links_in ns;
        threes = numbers_of_lem ns (eqb-true _ _ threes.0);
        shown = shown_by_lem s.width rs (links_in ns) threes.1;
      }
