-- Where the numbers of a sheet are put: what is put one after the other in its place is there when all is put. By where each store falls.
-- Assumes nothing.
use mathlib.Core.Path.{◌≡◌, refl, sym, ap, ◌∙◌}
use mathlib.Core.List.{List, [], ◌∷◌, ◌++◌, append_assoc}
use Prim.Native.Nat.{ℕ, zero, suc, ◌+◌, ◌*◌, ◌≤◌, ◌<◌}
use native.Mathlib.Omega.{arith}
use lib.ListN.{drop, drop_of_length-le, get_or, length, set, take}
use lib.Seq.{drop-cons, drop-nil, get_or-drop, paste, paste-suc, take_all}
use Rattle.rule.specs.declared.Rule.{Rule}
use Rattle.rule.specs.Meaning.{RULES}
use Rattle.rule.specs.accept.Accept.{no_rule}
use Rattle.keeping.specs.kept_numbers.Numbers.{NUMBERS, RULES_AT, flat}
use Rattle.keeping.proofs.kept_numbers.Flat.{flat-length}

-- one number more, at k, is put
pub stored : (d : List ℕ) (at : ℕ) (s : List ℕ) (j n k v : ℕ) → k ≡ at + j → n ≡ suc j → v ≡ get_or s j 0 → k < length d → j < length s
    → set (paste d at s j) k v ≡ paste d at s n
stored d at s j n k v p q e h l =
    (λ i. set (paste d at s j) (p i) (e i)) ∙ paste-suc d at s j 0 (omega arith) l ∙ ap (paste d at s) (sym q)

nothing_more : (l : List ℕ) → l ++ [] ≡ l
nothing_more [] = refl
nothing_more (x ∷ l) = ap (λ (m : List ℕ). x ∷ m) (nothing_more l)

module _ (d : List ℕ) (at : ℕ) (s : List ℕ) (n : ℕ) (all : length s ≤ n) where
  pub all_put : paste d at s n ≡ take at d ++ (s ++ drop (at + n) d)
  all_put =
      ap (λ (l : List ℕ). take at d ++ l ++ drop (at + n) d) (take_all n s all) ∙ append_assoc (take at d) s (drop (at + n) d)

  pub put_last : length d ≤ at + n → paste d at s n ≡ take at d ++ s
  put_last h =
      all_put
      ∙ ap (λ (l : List ℕ). take at d ++ (s ++ l)) (drop_of_length-le d {i = at + n} h)
      ∙ ap (λ (l : List ℕ). take at d ++ l) (nothing_more s)

drop-flat : (i : ℕ) (rs : List Rule) → drop (4 * i) (flat rs) ≡ flat (drop i rs)
unfolding flat
drop-flat zero rs = refl
drop-flat (suc i) [] = drop-nil (4 * suc i)
drop-flat (suc i) (r ∷ rs) =
    let e : 4 * suc i ≡ suc (suc (suc (suc (4 * i)))) = omega arith in ap (λ (k : ℕ). drop k (flat (r ∷ rs))) e ∙ drop-flat i rs

module _ (d : List ℕ) (many : length d ≡ NUMBERS) (rs : List Rule) (rules_fill : length rs ≡ RULES) (i : ℕ) (h : i < RULES) where
  abbrev r : Rule
  r = get_or rs i no_rule

  abbrev put : ℕ → List ℕ
  put n = paste d RULES_AT (flat rs) n

  field : (n j : ℕ) → n ≡ 4 * i + j → get_or (flat rs) n 0 ≡ get_or (r.form ∷ r.sense ∷ r.c1 ∷ r.c2 ∷ flat (drop (suc i) rs)) j 0
  unfolding flat
  field n j e =
      ap (λ (k : ℕ). get_or (flat rs) k 0) e
      ∙ sym (get_or-drop (4 * i) (flat rs) j 0)
      ∙ ap (λ (l : List ℕ). get_or l j 0) (drop-flat i rs ∙ ap flat (drop-cons rs i no_rule (omega arith)))

  within : (n : ℕ) → n < 4 * RULES → n < length (flat rs)
  within n l = omega (arith, flat-length rs)

  -- the four numbers of one rule more
  pub rule_put :
      set (set (set (set (put (4 * i)) (RULES_AT + 4 * i) r.form) (RULES_AT + 4 * i + 1) r.sense) (RULES_AT + 4 * i + 2) r.c1) (RULES_AT + 4 * i + 3) r.c2
      ≡ put (4 * (i + 1))
  rule_put =
      let form : set (put (4 * i)) (RULES_AT + 4 * i) r.form ≡ put (4 * i + 1) =
      stored d RULES_AT (flat rs) (4 * i) (4 * i + 1) _ _ refl (omega arith) (sym (field (4 * i) 0 (omega arith))) (omega arith) (within (4 * i) (omega arith)) in
      let sense : set (put (4 * i + 1)) (RULES_AT + 4 * i + 1) r.sense ≡ put (4 * i + 2) =
      stored d RULES_AT (flat rs) (4 * i + 1) (4 * i + 2) _ _ (omega arith) (omega arith) (sym (field (4 * i + 1) 1 refl)) (omega arith) (within (4 * i + 1) (omega arith)) in
      let c1 : set (put (4 * i + 2)) (RULES_AT + 4 * i + 2) r.c1 ≡ put (4 * i + 3) =
      stored d RULES_AT (flat rs) (4 * i + 2) (4 * i + 3) _ _ (omega arith) (omega arith) (sym (field (4 * i + 2) 2 refl)) (omega arith) (within (4 * i + 2) (omega arith)) in
      let c2 : set (put (4 * i + 3)) (RULES_AT + 4 * i + 3) r.c2 ≡ put (4 * (i + 1)) =
      stored d RULES_AT (flat rs) (4 * i + 3) (4 * (i + 1)) _ _ (omega arith) (omega arith) (sym (field (4 * i + 3) 3 refl)) (omega arith) (within (4 * i + 3) (omega arith)) in
      ap (λ (l : List ℕ). set (set (set l (RULES_AT + 4 * i + 1) r.sense) (RULES_AT + 4 * i + 2) r.c1) (RULES_AT + 4 * i + 3) r.c2) form
      ∙ ap (λ (l : List ℕ). set (set l (RULES_AT + 4 * i + 2) r.c1) (RULES_AT + 4 * i + 3) r.c2) sense
      ∙ ap (λ (l : List ℕ). set l (RULES_AT + 4 * i + 3) r.c2) c1
      ∙ c2
