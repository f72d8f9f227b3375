-- The first clause that does not hold, where some clauses stand before others: it is the first of those before, or where these hold
-- the first of the others. By induction on those before. Assumes nothing.
use mathlib.Core.Path.{◌≡◌, refl, sym, ap, ap₂, ◌∙◌}
use mathlib.Core.Bool.{Bool, true, false, ◌&&◌, cond}
use mathlib.Core.Logic.{◌⊎◌, inl, inr, ⊎_elim}
use mathlib.Core.List.{List, [], ◌∷◌, ◌++◌}
use Rattle.std.specs.Prelude.{Ok, Err}
use Rattle.std.specs.Result.{is_ok}
use Rattle.word.proofs.Tests.{both_pass}
use Rattle.rule.specs.accept.Accept.{every}
use Rattle.checker.specs.declared.finding.Breach.{Breach}
use Rattle.checker.specs.finding.Clauses.{Clause, first_broken}
use Rattle.checker.specs.finding.First.{IsFirst, all_hold}

either : (b : Bool) → (b ≡ true) ⊎ (b ≡ false)
either true = inl refl
either false = inr refl

-- one clause before others
module _ (c : Clause) (cs : List Clause) where
  passed : c.holds ≡ true → first_broken (c ∷ cs) ≡ first_broken cs
  unfolding first_broken
  passed e = ap (λ (b : Bool). cond b (first_broken cs) (Err c.found)) e

  broken : c.holds ≡ false → first_broken (c ∷ cs) ≡ Err c.found
  unfolding first_broken
  broken e = ap (λ (b : Bool). cond b (first_broken cs) (Err c.found)) e

-- where those before hold, the others decide
pub goes_on : (cs ds : List Clause) → first_broken cs ≡ Ok tt → first_broken ds ≡ first_broken (cs ++ ds)
goes_on [] ds y = refl
goes_on (c ∷ cs) ds y =
    ⊎_elim (λ e. goes_on cs ds (sym (passed c cs e) ∙ y) ∙ sym (passed c (cs ++ ds) e))
    (λ e. let n = broken c cs e in cc)
    (either c.holds)

-- where one of them does not hold, the others are not looked at
pub stops : (cs ds : List Clause) (f : Breach) → first_broken cs ≡ Err f → Err f ≡ first_broken (cs ++ ds)
unfolding first_broken
stops [] ds f n = cc
stops (c ∷ cs) ds f n =
    ⊎_elim (λ e. stops cs ds f (sym (passed c cs e) ∙ n) ∙ sym (passed c (cs ++ ds) e))
    (λ e. sym n ∙ broken c cs e ∙ sym (broken c (cs ++ ds) e))
    (either c.holds)

-- nothing is broken just where all hold
pub ok_all : (cs : List Clause) → is_ok (first_broken cs) ≡ all_hold cs
unfolding first_broken every
ok_all [] = refl
ok_all (c ∷ cs) =
    ⊎_elim (λ e. ap is_ok (passed c cs e) ∙ ok_all cs ∙ ap (λ (b : Bool). b && all_hold cs) (sym e))
    (λ e. ap is_ok (broken c cs e) ∙ ap (λ (b : Bool). b && all_hold cs) (sym e))
    (either c.holds)

-- the breach is that of the first that does not hold
pub is_first : (cs : List Clause) (f : Breach) → first_broken cs ≡ Err f → IsFirst cs f
unfolding first_broken every
is_first [] f n = cc
is_first (c ∷ cs) f n =
    ⊎_elim (λ e.
    let i = is_first cs f (sym (passed c cs e) ∙ n) in
    record {
      before = c ∷ i.before;
      broken = i.broken;
      after = i.after;
      whole = ap (λ (ds : List Clause). c ∷ ds) i.whole;
      kept = ap₂ ◌&&◌ e i.kept;
      fails = i.fails;
      told = i.told;
    })
    (λ e. let b = broken c cs e in record {
      before = [];
      broken = c;
      after = cs;
      whole = refl;
      kept = refl;
      fails = e;
      told = cc;
    })
    (either c.holds)

-- and there is no other by what is said of the first
pub only_first : (cs : List Clause) (f : Breach) → IsFirst cs f → Err f ≡ first_broken cs
unfolding every
only_first cs f i = go i.before i.kept ∙ ap first_broken (sym i.whole)
  where
    go : (ds : List Clause) → all_hold ds ≡ true → Err f ≡ first_broken (ds ++ (i.broken ∷ i.after))
    go [] k = ap Err (sym i.told) ∙ sym (broken i.broken i.after i.fails)
    go (d ∷ ds) k = let t = both_pass d.holds (all_hold ds) k in go ds t.1 ∙ sym (passed d (ds ++ (i.broken ∷ i.after)) t.0)
