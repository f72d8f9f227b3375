-- Nothing is found just where the check says yes: clauses that all hold are links that cover the wheel, one after another, and so
-- the other way round. By induction on the links. Assumes nothing.
use mathlib.Core.Path.{◌≡◌, refl, sym, ap, ap₂, ◌∙◌, subst}
use mathlib.Core.Bool.{Bool, true, false, not, ◌&&◌, ◌||◌}
use mathlib.Core.List.{List, [], ◌∷◌}
use Prim.Native.Nat.{ℕ, suc, max, ◌≤◌}
use native.Mathlib.Decide.{ℕ_discrete}
use native.Mathlib.Omega.{arith}
use borrow.Author.Tests.{eq-eqb, eqb-true, le-leb, leb-true, ltb-true, ne_eqb}
use lib.Dec.{eqb, leb, ltb}
use lib.ListN.{length}
use Rattle.std.specs.Prelude.{Ok}
use Rattle.std.specs.Result.{is_ok}
use Rattle.word.specs.Word.{top}
use Rattle.word.proofs.Tests.{both_pass, same_test}
use Rattle.rule.specs.declared.Rule.{Rule}
use Rattle.rule.specs.Meaning.{meets, meets7}
use Rattle.rule.specs.accept.Accept.{every}
use Rattle.rule.proofs.accept.Every.{every_append}
use Rattle.chain.specs.declared.Link.{Link}
use Rattle.chain.specs.Chain.{Covers}
use Rattle.chain.specs.Chain.Covers.{end, on}
use Rattle.chain.specs.Links.{BITS, nth}
use Rattle.checker.specs.covering.Check.{names_bits, names_rule, right_reason, shown}
use Rattle.checker.specs.covering.route.Route.{covered}
use Rattle.checker.proofs.covering.Covering.{covers_shown, shown_covers, shows_is, shows_order, shows_reason}
use Rattle.checker.proofs.covering.EveryWord.{misses}
use Rattle.checker.proofs.covering.Midway.{covered_none, covered_some}
use Rattle.checker.specs.finding.Clauses.{first_broken, lie_clauses, list_clauses, reason_clauses}
use Rattle.checker.specs.finding.First.{all_hold}
use Rattle.checker.proofs.finding.Broken.{ok_all}

-- ---- one link

and_true : (b : Bool) → (b && true) ≡ b
and_true true = refl
and_true false = refl

-- the two clauses on the start are one on how many words are covered
start_as : (i e : ℕ) (n : ℕ) → ((not (eqb i 0) || eqb n 0) && ((eqb i 0 || leb n (suc e)) && true)) ≡ leb n (covered i e)
start_as i e n = go (ℕ_discrete i 0)
  where
    go : Dec (i ≡ 0) → ((not (eqb i 0) || eqb n 0) && ((eqb i 0 || leb n (suc e)) && true)) ≡ leb n (covered i e)
    go (yes z) =
        ap (λ (b : Bool). (not b || eqb n 0) && ((b || leb n (suc e)) && true)) (eq-eqb i 0 z)
        ∙ and_true (eqb n 0)
        ∙ same_test (eqb n 0) (leb n 0) (λ d. le-leb n 0 (omega (arith, eqb-true n 0 d))) (λ d. eq-eqb n 0 (omega (arith, leb-true n 0 d)))
        ∙ ap (leb n) (sym (covered_none i e z))
    go (no z) =
        ap (λ (b : Bool). (not b || eqb n 0) && ((b || leb n (suc e)) && true)) (ne_eqb i 0 z)
        ∙ and_true (leb n (suc e))
        ∙ ap (leb n) (sym (covered_some i e z))

lies_so : (t i e : ℕ) (l : Link) → all_hold (lie_clauses t i e l) ≡ true → (l.from ≤ l.to) × (l.to ≤ t) × (l.from ≤ covered i e)
unfolding lie_clauses every
lies_so t i e l h =
    let a = both_pass (leb l.from l.to) _ h in
    let b = both_pass (leb l.to t) _ a.1 in
    (leb-true _ _ a.0, leb-true _ _ b.0, leb-true _ _ (sym (start_as i e l.from) ∙ b.1))

pub in_place : (t i e : ℕ) (l : Link) → first_broken (lie_clauses t i e l) ≡ Ok tt → (l.from ≤ l.to) × (l.to ≤ t)
in_place t i e l y =
    let o = lies_so t i e l (sym (ok_all (lie_clauses t i e l)) ∙ ap is_ok y) in (o.0, o.1)

so_lies : (t i e : ℕ) (l : Link) → l.from ≤ l.to → l.to ≤ t → l.from ≤ covered i e → all_hold (lie_clauses t i e l) ≡ true
unfolding lie_clauses every
so_lies t i e l a b c = ap₂ ◌&&◌ (le-leb _ _ a) (ap₂ ◌&&◌ (le-leb _ _ b) (start_as i e l.from ∙ le-leb _ _ c))

-- the reason's four clauses, where 255 is no rule's number
four : (a b c d g : Bool) → (a ≡ true → b ≡ true → ⊥)
    → ((a || b) && ((not a || not c) && ((not a || d) && ((not b || g) && true)))) ≡ ((a && (not c && d)) || (b && g))
four true true c d g n = absurd (n refl refl)
four true false true d g n = refl
four true false false true g n = refl
four true false false false g n = refl
four false true c d true n = refl
four false true c d false n = refl
four false false c d g n = refl

reason_as : (w : ℕ) (rs : List Rule) (i : ℕ) (l : Link) → length rs ≤ BITS → all_hold (reason_clauses w rs i l) ≡ right_reason w rs l
unfolding reason_clauses right_reason names_rule names_bits every
reason_as w rs i l h =
    four (ltb l.reason (length rs)) (eqb l.reason BITS) (eqb (nth rs l.reason).form 7) (misses (meets w (nth rs l.reason)) l.from l.to) (misses (meets7 w rs) l.from l.to)
    (λ a b. omega (arith, ltb-true l.reason (length rs) a, eqb-true l.reason BITS b))

-- ---- the links

covered_next : (i e q : ℕ) → (i ≡ 0 → e ≡ 0) → max (covered i e) (suc q) ≡ covered (suc i) (max e q)
covered_next i e q z = go (ℕ_discrete i 0)
  where
    go : Dec (i ≡ 0) → max (covered i e) (suc q) ≡ covered (suc i) (max e q)
    go (yes d) = omega (arith, z d, covered_none i e d, covered_some (suc i) (max e q) (λ f. omega arith))
    go (no d) = omega (arith, covered_some i e d, covered_some (suc i) (max e q) (λ f. omega arith))

module _ (w : ℕ) (rs : List Rule) (few : length rs ≤ BITS) (some : 1 ≤ top w) where
  holds_covers : (i e : ℕ) (ls : List Link) → (i ≡ 0 → e ≡ 0) → all_hold (list_clauses w rs i e ls) ≡ true → Covers w rs (covered i e) ls
  unfolding list_clauses every
  holds_covers i e [] z h =
      let t : e ≡ top w = eqb-true e (top w) (both_pass (eqb e (top w)) true h).0 in
      end (covered_some i e (λ d. omega (arith, z d)) ∙ ap suc t)
  holds_covers i e (l ∷ ls) z h =
      let a = both_pass (all_hold (lie_clauses (top w) i e l)) _ (sym (every_append _ (lie_clauses (top w) i e l) _) ∙ h) in
      let b = both_pass (all_hold (reason_clauses w rs i l)) _ (sym (every_append _ (reason_clauses w rs i l) _) ∙ a.1) in
      let o = lies_so (top w) i e l a.0 in
      on o.2 (shows_is w rs l (o.0, o.1) (sym (reason_as w rs i l few) ∙ b.0))
      (subst (λ (n : ℕ). Covers w rs n ls) (sym (covered_next i e l.to z)) (holds_covers (suc i) (max e l.to) ls (λ d. absurd (omega arith)) b.1))

  covers_holds : (i e : ℕ) (ls : List Link) → (i ≡ 0 → e ≡ 0) → Covers w rs (covered i e) ls → all_hold (list_clauses w rs i e ls) ≡ true
  unfolding list_clauses every
  covers_holds i e [] z (end d) = ap (λ (b : Bool). b && true) (eq-eqb e (top w) (go (ℕ_discrete i 0)))
    where
      go : Dec (i ≡ 0) → e ≡ top w
      go (yes f) = absurd (omega (arith, covered_none i e f))
      go (no f) = omega (arith, covered_some i e f)
  covers_holds i e (l ∷ ls) z (on a s c) =
      let o = shows_order w rs l s in
      every_append _ (lie_clauses (top w) i e l) _
      ∙ ap₂ ◌&&◌ (so_lies (top w) i e l o.0 o.1 a)
      (every_append _ (reason_clauses w rs i l) _
      ∙ ap₂ ◌&&◌ (reason_as w rs i l few ∙ shows_reason w rs l s)
      (covers_holds (suc i) (max e l.to) ls (λ d. absurd (omega arith)) (subst (λ (n : ℕ). Covers w rs n ls) (covered_next i e l.to z) c)))

  pub yes_shown : (ls : List Link) → is_ok (first_broken (list_clauses w rs 0 0 ls)) ≡ shown w rs ls
  yes_shown ls =
      let none = covered_none 0 0 refl in
      ok_all (list_clauses w rs 0 0 ls)
      ∙ same_test (all_hold (list_clauses w rs 0 0 ls)) (shown w rs ls)
      (λ h. covers_shown w rs ls (subst (λ (n : ℕ). Covers w rs n ls) none (holds_covers 0 0 ls (λ z. refl) h)))
      (λ h. covers_holds 0 0 ls (λ z. refl) (subst (λ (n : ℕ). Covers w rs n ls) (sym none) (shown_covers w rs ls h)))
