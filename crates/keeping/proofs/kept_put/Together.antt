-- Head, marks and rules put one after another are the numbers of a sheet. Assumes nothing.
use mathlib.Core.Path.{◌≡◌, refl, sym, ap, ◌∙◌}
use mathlib.Core.List.{List, ◌++◌, append_assoc}
use Prim.Native.Nat.{ℕ}
use native.Mathlib.Omega.{arith}
use lib.ListN.{drop, length, length-append, length-drop, take}
use lib.Seq.{take_at}
use Rattle.page.specs.Page.{MARKS}
use Rattle.sheet.specs.declared.Sheet.{Sheet}
use Rattle.keeping.specs.kept_numbers.Numbers.{HEAD, NUMBERS, RULES_AT, flat, head_of, numbers_of}

module _ (s : Sheet) (z a : List ℕ) (many : length z ≡ NUMBERS) (head : a ≡ head_of s ++ drop HEAD z) where
  pub head_many : length a ≡ NUMBERS
  head_many = omega (arith, ap length head, length-append (head_of s) (drop HEAD z), length-drop HEAD z)

  module _ (b : List ℕ) (fill : length s.marks ≡ MARKS) (marks : b ≡ take HEAD a ++ (s.marks ++ drop RULES_AT a)) where
    marks_put : b ≡ head_of s ++ (s.marks ++ drop RULES_AT a)
    marks_put =
        marks
        ∙ ap (λ (l : List ℕ). l ++ (s.marks ++ drop RULES_AT a)) (ap (take HEAD) head ∙ take_at (head_of s) (drop HEAD z) HEAD refl)

    pub marks_put_many : length b ≡ NUMBERS
    marks_put_many =
        omega (arith, ap length marks_put, length-append s.marks (drop RULES_AT a), length-drop RULES_AT a, head_many)

    pub put_together : (c : List ℕ) → c ≡ take RULES_AT b ++ flat s.rules → c ≡ numbers_of s
    unfolding numbers_of
    put_together c rules =
        let front : take RULES_AT b ≡ head_of s ++ s.marks =
        ap (take RULES_AT) (marks_put ∙ sym (append_assoc (head_of s) s.marks (drop RULES_AT a)))
        ∙ take_at (head_of s ++ s.marks) (drop RULES_AT a) RULES_AT (omega (arith, length-append (head_of s) s.marks)) in
        rules ∙ ap (λ (l : List ℕ). l ++ flat s.rules) front ∙ append_assoc (head_of s) s.marks (flat s.rules)
