-- Rows that are cleared from one place up to another hold no rules there; where nothing lay after them, nothing lies after the first of
-- these places. Assumes nothing.
use mathlib.Core.Path.{◌≡◌, refl, sym, ap, ap₂, ◌∙◌}
use mathlib.Core.List.{List, [], ◌∷◌, map, ◌++◌}
use Prim.Native.Nat.{ℕ, zero, suc, ◌+◌, ◌-◌, ◌≤◌}
use native.Mathlib.Nat.{sub_self}
use native.Mathlib.Omega.{arith}
use lib.ListN.{drop, drop_of_length-le, length, replicate, replicate-append-replicate, take}
use Rattle.rule.specs.declared.Rule.{Rule}
use Rattle.rule.specs.accept.Accept.{no_rule}
use Rattle.search.specs.rows.route.Rows.{no_row, rule_in, rules_in}
use Rattle.search.proofs.rows.OneMore.{map_append}

pub take-map : {A B : Type 0} (f : A → B) (n : ℕ) (l : List A) → take n (map f l) ≡ map f (take n l)
take-map f zero l = refl
take-map f (suc n) [] = refl
take-map f (suc n) (x ∷ l) = ap (λ (m : List _). f x ∷ m) (take-map f n l)

drop-map : {A B : Type 0} (f : A → B) (n : ℕ) (l : List A) → map f (drop n l) ≡ drop n (map f l)
drop-map f zero l = refl
drop-map f (suc n) [] = refl
drop-map f (suc n) (x ∷ l) = drop-map f n l

no_rules : (k : ℕ) → rules_in (replicate k no_row) ≡ replicate k no_rule
unfolding rule_in
no_rules zero = refl
no_rules (suc k) = ap (λ (rs : List Rule). no_rule ∷ rs) (no_rules k)

-- the rules of the rows once places n up to m are cleared
pub rules_cleared : (rows : List (List ℕ)) (n m : ℕ)
    → rules_in (take n rows ++ (replicate (m - n) no_row ++ drop m rows)) ≡ take n (rules_in rows) ++ (replicate (m - n) no_rule ++ drop m (rules_in rows))
rules_cleared rows n m =
    map_append rule_in (take n rows) (replicate (m - n) no_row ++ drop m rows)
    ∙ ap₂ ◌++◌ (sym (take-map rule_in n rows)) (map_append rule_in (replicate (m - n) no_row) (drop m rows) ∙ ap₂ ◌++◌ (no_rules (m - n)) (drop-map rule_in m rows))

-- z from place n up to m, and z after
pub emptied : {A : Type 0} (l l' : List A) (n m size : ℕ) (z : A) → n ≤ m → m ≤ size → l' ≡ take n l ++ (replicate (m - n) z ++ drop m l)
    → drop m l ≡ replicate (size - m) z → l' ≡ take n l ++ replicate (size - n) z
emptied {A} l l' n m size z low high e d =
    let all : m - n + (size - m) ≡ size - n = omega arith in
    e
    ∙ ap (λ (t : List A). take n l ++ t)
    (ap (λ (t : List A). replicate (m - n) z ++ t) d ∙ replicate-append-replicate (m - n) (size - m) z ∙ ap (λ (k : ℕ). replicate k z) all)

-- and nothing lies past the last place
pub past_all : {A : Type 0} (l : List A) (size : ℕ) (z : A) → length l ≡ size → drop size l ≡ replicate (size - size) z
past_all l size z e =
    drop_of_length-le l {i = size} (omega (arith, e)) ∙ ap (λ (k : ℕ). replicate k z) (sym (sub_self size))
