-- The walk over a list of numbers: what is found of all links is what is found of those left, since the clauses of each link passed hold. A
-- clause that does not, or the end of the list, decides. Assumes nothing.
use mathlib.Core.Path.{◌≡◌, refl, sym, ap, ap₂, ◌∙◌}
use mathlib.Core.Bool.{Bool, cond}
use mathlib.Core.List.{List, [], ◌++◌}
use Prim.Native.Nat.{ℕ, zero, suc, max, ◌+◌, ◌*◌, ◌≤◌, ◌<◌}
use native.Mathlib.Omega.{arith}
use borrow.Author.Tests.{eq-eqb, ne_eqb}
use lib.ListN.{drop, get_or, length, length-drop}
use lib.Seq.{drop-length, get_or-take}
use Rattle.std.proofs.lemmas.List.{get_or-drop}
use Rattle.std.specs.Simd.{first_chunks}
use Rattle.std.specs.Prelude.{Result, Ok, Err}
use Rattle.word.specs.Word.{top}
use Rattle.rule.specs.declared.Rule.{Rule}
use Rattle.chain.specs.declared.Link.{Link}
use Rattle.chain.specs.Links.{link, link_from}
use Rattle.checker.specs.covering.Check.{links_in}
use Rattle.checker.proofs.covering.Midway.{next_link}
use Rattle.checker.specs.declared.finding.Breach.{Breach}
use Rattle.checker.specs.declared.finding.Breach.TheVariants.{Short}
use Rattle.checker.specs.finding.Clauses.{Clause, first_broken, lie_clauses, list_clauses, reason_clauses}
use Rattle.checker.proofs.finding.Broken.{goes_on, stops}

-- ---- the numbers in threes

same_link : {a b c p q r : ℕ} → a ≡ p → b ≡ q → c ≡ r → link a b c ≡ link p q r
same_link d e f = λ k. link (d k) (e k) (f k)

three_on : (ns : List ℕ) (a b : ℕ) → 3 + a ≡ b → get_or (drop 3 ns) a 0 ≡ get_or ns b 0
three_on ns a b e = get_or-drop 3 ns a 0 ∙ ap (λ (j : ℕ). get_or ns j 0) e

-- the link that three numbers are stands at their place among all
pub three_link : (k i : ℕ) (ns d : List ℕ) → i < k → 3 * k ≤ length ns → link_from (get_or (first_chunks 3 k ns) i d) 0 ≡ link_from ns (3 * i)
three_link zero i ns d h r = absurd (omega arith)
three_link (suc k) zero ns d h r =
    same_link (get_or-take 3 ns 0 0 (omega arith)) (get_or-take 3 ns 1 0 (omega arith)) (get_or-take 3 ns 2 0 (omega arith))
three_link (suc k) (suc i) ns d h r =
    three_link k i (drop 3 ns) d (omega arith) (omega (arith, length-drop 3 ns))
    ∙ same_link (three_on ns (3 * i) (3 * suc i) (omega arith)) (three_on ns (3 * i + 1) (3 * suc i + 1) (omega arith)) (three_on ns (3 * i + 2) (3 * suc i + 2) (omega arith))

-- ---- what is found of the link that is read is found of the link at its place

pub placed : {r : Result Unit Breach} (t u i e : ℕ) (l m : Link) → r ≡ first_broken (lie_clauses t i e l) → t ≡ u → l ≡ m → first_broken (lie_clauses u i e m) ≡ r
placed t u i e l m d p q = sym (ap₂ (λ (v : ℕ) (k : Link). first_broken (lie_clauses v i e k)) p q) ∙ sym d

pub reasoned : {r : Result Unit Breach} (w : ℕ) (rs : List Rule) (i : ℕ) (l m : Link) → r ≡ first_broken (reason_clauses w rs i l) → l ≡ m → first_broken (reason_clauses w rs i m) ≡ r
reasoned w rs i l m d q = sym (ap (λ (k : Link). first_broken (reason_clauses w rs i k)) q) ∙ sym d

-- ---- the walk

module _ (w : ℕ) (rs : List Rule) (ns : List ℕ) where
  -- what is found of all links
  abbrev pub all : Result Unit Breach
  all = first_broken (list_clauses w rs 0 0 (links_in ns))

  -- and of those from place k on, where i stand before it and e is the largest end of these
  pub record Midway (i k e : ℕ) : Type 0 where
    pub rest : first_broken (list_clauses w rs i e (links_in (drop k ns))) ≡ all

  pub at_first : Midway 0 0 0
  at_first = record { rest = refl }

  pub moved : {i j k m e q : ℕ} → i ≡ j → k ≡ m → e ≡ q → Midway i k e → Midway j m q
  moved a b c mid = record { rest = sym (λ t. first_broken (list_clauses w rs (a t) (c t) (links_in (drop (b t) ns)))) ∙ mid.rest }

  module _ (i k e : ℕ) (mid : Midway i k e) where
    none_left : k ≡ length ns → links_in (drop k ns) ≡ []
    unfolding links_in
    none_left n = ap (λ (j : ℕ). links_in (drop j ns)) n ∙ ap links_in (drop-length ns)

    pub at_top : k ≡ length ns → e ≡ top w → Ok tt ≡ all
    unfolding list_clauses first_broken
    at_top n t =
        sym (ap (λ (b : Bool). cond b (Ok tt) (Err Short)) (eq-eqb e (top w) t)) ∙ sym (ap (λ (ls : List Link). first_broken (list_clauses w rs i e ls)) (none_left n)) ∙ mid.rest

    pub below_top : k ≡ length ns → (e ≡ top w → ⊥) → Err Short ≡ all
    unfolding list_clauses first_broken
    below_top n t =
        sym (ap (λ (b : Bool). cond b (Ok tt) (Err Short)) (ne_eqb e (top w) t)) ∙ sym (ap (λ (ls : List Link). first_broken (list_clauses w rs i e ls)) (none_left n)) ∙ mid.rest

    module _ (room : k + 3 ≤ length ns) where
      abbrev l : Link
      l = link_from ns k

      abbrev later : List Clause
      later = list_clauses w rs (suc i) (max e l.to) (links_in (drop (k + 3) ns))

      here : first_broken (lie_clauses (top w) i e l ++ (reason_clauses w rs i l ++ later)) ≡ all
      unfolding list_clauses
      here = sym (ap (λ (ls : List Link). first_broken (list_clauses w rs i e ls)) (next_link ns k room)) ∙ mid.rest

      pub wrong_place : (f : Breach) → first_broken (lie_clauses (top w) i e l) ≡ Err f → Err f ≡ all
      wrong_place f n = stops (lie_clauses (top w) i e l) (reason_clauses w rs i l ++ later) f n ∙ here

      module _ (lies : first_broken (lie_clauses (top w) i e l) ≡ Ok tt) where
        at_reason : first_broken (reason_clauses w rs i l ++ later) ≡ all
        at_reason = goes_on (lie_clauses (top w) i e l) (reason_clauses w rs i l ++ later) lies ∙ here

        pub wrong_reason : (f : Breach) → first_broken (reason_clauses w rs i l) ≡ Err f → Err f ≡ all
        wrong_reason f n = stops (reason_clauses w rs i l) later f n ∙ at_reason

        pub at_next : first_broken (reason_clauses w rs i l) ≡ Ok tt → Midway (suc i) (k + 3) (max e l.to)
        at_next s = record { rest = goes_on (reason_clauses w rs i l) later s ∙ at_reason }
