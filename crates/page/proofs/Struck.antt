-- What a step back leaves: the newest mark is the last of the marks, and it says how many rules stand above it, which are all that a
-- step back leaves. Assumes nothing.
use mathlib.Core.Path.{◌≡◌, sym, ap, ◌∙◌}
use mathlib.Core.List.{List, [], ◌∷◌, ◌++◌}
use Prim.Native.Nat.{ℕ, ◌-◌, ◌≤◌, ◌<◌}
use native.Mathlib.Omega.{arith}
use lib.ListN.{get_or, length, length-append}
use lib.Seq.{get_or_at}
use Rattle.page.specs.Page.{Entry, marks_on, rules_on, stretch, struck}
use Rattle.page.proofs.Stretches.{is_stretch, marks_more, rules_more, stretch-struck}

pub rules_split : (es : List Entry) → rules_on es ≡ rules_on (struck es) ++ rules_on (stretch es)
rules_split es = ap rules_on (sym (stretch-struck es)) ∙ rules_more (stretch es) (struck es)

pub marks_split : (es : List Entry) → 0 < length (marks_on es) → marks_on es ≡ marks_on (struck es) ++ length (rules_on (struck es)) ∷ []
marks_split es some = ap marks_on (sym (stretch-struck es)) ∙ marks_more (struck es) (is_stretch es some)

-- the newest of the marks
abbrev pub newest : List ℕ → ℕ
newest ms = get_or ms (length ms - 1) 0

module _ (es : List Entry) (some : 0 < length (marks_on es)) where
  pub marks_left_length : length (marks_on (struck es)) ≡ length (marks_on es) - 1
  marks_left_length =
      omega (arith, ap length (marks_split es some), length-append (marks_on (struck es)) (length (rules_on (struck es)) ∷ []))

  pub count_left : length (rules_on (struck es)) ≡ newest (marks_on es)
  count_left =
      sym
      (ap (λ (ms : List ℕ). get_or ms (length (marks_on es) - 1) 0) (marks_split es some)
      ∙ get_or_at (marks_on (struck es)) (length (rules_on (struck es))) [] 0 (length (marks_on es) - 1) marks_left_length)

  pub newest_low : newest (marks_on es) ≤ length (rules_on es)
  newest_low = omega (arith, count_left, ap length (rules_split es), length-append (rules_on (struck es)) (rules_on (stretch es)))
