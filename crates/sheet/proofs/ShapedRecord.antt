-- A record with the right number of places is well shaped where its first places hold acceptable rules and marks that rise
-- up to them, its other places hold zeros, and its marks say how many rules are in force: each test says that of its part. Assumes
-- nothing.
use mathlib.Core.Path.{◌≡◌, refl, sym, ap, ap₂, ◌∙◌}
use mathlib.Core.Bool.{Bool, true, ◌&&◌}
use mathlib.Core.List.{List, ◌++◌}
use Prim.Native.Nat.{ℕ, ◌+◌, ◌-◌, ◌≤◌}
use native.Mathlib.Omega.{arith}
use borrow.Author.Tests.{eq-eqb, le-leb}
use lib.ListN.{drop, length, replicate, take, take-append-drop}
use lib.Seq.{drop-append_seam, drop_at, length-take-le, take-append_seam, take_at}
use Rattle.rule.specs.declared.Rule.{Rule}
use Rattle.word.specs.declared.Edition.{Edition}
use Rattle.rule.specs.Meaning.{RULES}
use Rattle.rule.specs.accept.Accept.{acceptable, every, is_no_rule, no_rule}
use Rattle.rule.proofs.accept.Every.{every_even}
use Rattle.search.specs.declared.verdict.Kept.{Kept}
use Rattle.sheet.specs.declared.Sheet.{Sheet}
use Rattle.page.specs.Page.{MARKS, padded}
use Rattle.page.specs.route.Shape.{is_zero, marks_shaped, rising, rules_shaped}
use Rattle.sheet.specs.slate.route.Shape.{in_force, well_shaped}
use Rattle.sheet.proofs.slate.Shaped.{shaped_so_lem}
use Rattle.sheet.specs.route.Shape.{untested}

-- the record with these rules and marks, and zeros in the other places; so many of both are in force, and so many marks wait
abbrev pub filled : (w : ℕ) → List Rule → List ℕ → (count marked waiting : ℕ) → Kept → Edition → Sheet
filled w rs ms n m v k e =
    record {
      width = w;
      rules = padded RULES no_rule rs;
      count = n;
      marks = padded MARKS 0 ms;
      marked = m;
      kept = k;
      given = length rs;
      waiting = v;
      edition = e;
    }

-- n places, of which those from k on hold z
all_padded : {A : Type 0} (n : ℕ) (z : A) (l : List A) (k : ℕ) → length (take k l) ≡ k → drop k l ≡ replicate (n - k) z → l ≡ padded n z (take k l)
all_padded {A} n z l k c d =
    sym (take-append-drop k l) ∙ ap (λ (t : List A). take k l ++ t) (d ∙ ap (λ (j : ℕ). replicate (n - j) z) (sym c))

-- the shape, of a record
abbrev pub shaped_so : Sheet → Bool
shaped_so s = well_shaped (untested s) s.rules s.marks

module _ (w : ℕ) (rs : List Rule) (ms : List ℕ) (n m v : ℕ) (k : Kept) (e : Edition) where
  pub shaped_filled : length rs ≤ RULES → length ms ≤ MARKS → length ms ≡ m + v → every (acceptable w) rs ≡ true → rising 0 ms (length rs) ≡ true
      → in_force (length rs) (padded MARKS 0 ms) m v ≡ n → shaped_so (filled w rs ms n m v k e) ≡ true
  unfolding well_shaped rules_shaped marks_shaped is_no_rule
  shaped_filled few low many good rise counted =
      let none : List ℕ = replicate (MARKS - length ms) 0 in
      rw (take-append_seam rs, drop-append_seam rs, take_at ms none (m + v) many, drop_at ms none (m + v) many)
      (ap₂ ◌&&◌ (le-leb _ _ few)
      (ap₂ ◌&&◌ (le-leb m MARKS (omega arith))
      (ap₂ ◌&&◌ (le-leb v (MARKS - m) (omega arith))
      (ap₂ ◌&&◌ (eq-eqb _ _ (sym counted))
      (ap₂ ◌&&◌ (ap₂ ◌&&◌ good (every_even is_no_rule no_rule refl (RULES - length rs))) (ap₂ ◌&&◌ rise (every_even is_zero 0 refl (MARKS - length ms))))))))

-- the rules and the marks that a record notes, in force and waiting
abbrev pub rules_in : Sheet → List Rule
rules_in s = take s.given s.rules

abbrev pub marks_in : Sheet → List ℕ
marks_in s = take (s.marked + s.waiting) s.marks

pub record ShapedSheet (s : Sheet) : Type 0 where
  pub few_rules : length (rules_in s) ≤ RULES
  pub few_marks : length (marks_in s) ≤ MARKS
  pub good_rules : every (acceptable s.width) (rules_in s) ≡ true
  pub rise : rising 0 (marks_in s) (length (rules_in s)) ≡ true
  pub many : length (marks_in s) ≡ s.marked + s.waiting
  pub counted : s.count ≡ in_force s.given s.marks s.marked s.waiting
  pub places : s ≡ filled s.width (rules_in s) (marks_in s) s.count s.marked s.waiting s.kept s.edition

pub shaped_sheet : (s : Sheet) → length s.rules ≡ RULES → length s.marks ≡ MARKS → shaped_so s ≡ true → ShapedSheet s
shaped_sheet s a b e =
    let h = shaped_so_lem (untested s) s.rules s.marks a b e in
    let c : length (rules_in s) ≡ s.given = length-take-le _ _ (omega (arith, a, h.given_high)) in
    let d : length (marks_in s) ≡ s.marked + s.waiting = length-take-le _ _ (omega (arith, b, h.marks_high)) in
    record {
      few_rules = omega (arith, c, h.given_high);
      few_marks = omega (arith, d, h.marks_high);
      good_rules = h.good_rules;
      rise = rw c h.rise;
      many = d;
      counted = h.counted;
      places = λ i. record {
        width = s.width;
        rules = all_padded RULES no_rule s.rules s.given c h.rules_after i;
        count = s.count;
        marks = all_padded MARKS 0 s.marks (s.marked + s.waiting) d h.marks_after i;
        marked = s.marked;
        kept = s.kept;
        given = sym c i;
        waiting = s.waiting;
        edition = s.edition;
      };
    }
