-- The marks on a page rise up to the rules on it, for a new mark notes how many rules there are and rules only become more.
-- And rules with marks that rise up to them are those of a page: for each mark in turn, enter the rules that stand above it
-- and then the mark, and at the end the rules that are left. Assumes nothing.
use mathlib.Core.Path.{◌≡◌, refl, ap, ap₂, ◌∙◌}
use mathlib.Core.Bool.{true, ◌&&◌}
use mathlib.Core.List.{List, [], ◌∷◌, ◌++◌, append_assoc, append-nil}
use Prim.Native.Nat.{ℕ, ◌+◌, ◌-◌, ◌≤◌}
use native.Mathlib.Nat.{le_refl}
use native.Mathlib.Omega.{arith}
use borrow.Author.Tests.{le-leb, leb-true}
use lib.Dec.{leb}
use lib.ListN.{drop, length, length-append, take, take-append-drop}
use lib.Seq.{append_snoc, length-take-le}
use Rattle.word.proofs.Tests.{both_pass}
use Rattle.rule.specs.declared.Rule.{Rule}
use Rattle.page.specs.Page.{Entry, a_mark, a_rule, marks_on, rules_on}
use Rattle.page.specs.route.Shape.{rising}

rising_order : (low : ℕ) (ms : List ℕ) (high : ℕ) → rising low ms high ≡ true → low ≤ high
unfolding rising
rising_order low [] high e = leb-true low high e
rising_order low (m ∷ ms) high e =
    let t = both_pass (leb low m) (rising m ms high) e in
    omega (arith, leb-true low m t.0, rising_order m ms high t.1)

rising_further : (low : ℕ) (ms : List ℕ) (high above : ℕ) → high ≤ above → rising low ms high ≡ true
    → rising low ms above ≡ true
unfolding rising
rising_further low [] high above h e = le-leb low above (omega (arith, leb-true low high e))
rising_further low (m ∷ ms) high above h e =
    let t = both_pass (leb low m) (rising m ms high) e in ap₂ ◌&&◌ t.0 (rising_further m ms high above h t.1)

-- one more mark, at the top
rising_more : (low : ℕ) (ms : List ℕ) (high : ℕ) → rising low ms high ≡ true → rising low (ms ++ high ∷ []) high ≡ true
unfolding rising
rising_more low [] high e = ap₂ ◌&&◌ e (le-leb high high (le_refl high))
rising_more low (m ∷ ms) high e =
    let t = both_pass (leb low m) (rising m ms high) e in ap₂ ◌&&◌ t.0 (rising_more m ms high t.1)

pub shaped_marks_rise : (es : List Entry) → rising 0 (marks_on es) (length (rules_on es)) ≡ true
unfolding rules_on marks_on rising
shaped_marks_rise [] = refl
shaped_marks_rise (a_rule r ∷ es) =
    rising_further 0 (marks_on es) (length (rules_on es)) _ (simp length-append (omega arith)) (shaped_marks_rise es)
shaped_marks_rise (a_mark ∷ es) = rising_more 0 (marks_on es) (length (rules_on es)) (shaped_marks_rise es)

-- entries with these rules and these marks
pub record Entered (rs : List Rule) (ms : List ℕ) : Type 0 where
  pub on : List Entry
  pub rules : rules_on on ≡ rs
  pub marks : marks_on on ≡ ms

nothing_entered : Entered [] []
unfolding rules_on marks_on
nothing_entered = record { on = []; rules = refl; marks = refl }

module _ {rs : List Rule} {ms : List ℕ} where
  enter_rule : Entered rs ms → (r : Rule) → Entered (rs ++ r ∷ []) ms
  unfolding rules_on marks_on
  enter_rule h r = record { on = a_rule r ∷ h.on; rules = ap (λ (l : List Rule). l ++ r ∷ []) h.rules; marks = h.marks }

  enter_mark : Entered rs ms → Entered rs (ms ++ length rs ∷ [])
  unfolding rules_on marks_on
  enter_mark h =
      record {
        on = a_mark ∷ h.on;
        rules = h.rules;
        marks = ap₂ (λ (l : List ℕ) (k : ℕ). l ++ k ∷ []) h.marks (ap length h.rules);
      }

enter_rules : {rs : List Rule} {ms : List ℕ} → Entered rs ms → (qs : List Rule) → Entered (rs ++ qs) ms
enter_rules h [] = rw append-nil h
enter_rules h (q ∷ qs) = rw append_snoc at (enter_rules (enter_rule h q) qs)

enter : (ms : List ℕ) (rs qs : List Rule) (ns : List ℕ) → Entered qs ns → rising (length qs) ms (length (qs ++ rs)) ≡ true
    → Entered (qs ++ rs) (ns ++ ms)
unfolding rising
enter [] rs qs ns h e = rw append-nil (enter_rules h rs)
enter (m ∷ ms) rs qs ns h e =
    let t = both_pass (leb (length qs) m) (rising m ms (length (qs ++ rs))) e in
    let k : ℕ = m - length qs in
    let l : length qs ≤ m = leb-true (length qs) m t.0 in
    let u : m ≤ length qs + length rs = rw length-append at (rising_order m ms (length (qs ++ rs)) t.1) in
    let d : length (qs ++ take k rs) ≡ m = length-append qs (take k rs) ∙ omega (arith, length-take-le k rs (omega arith)) in
    let p : qs ++ take k rs ++ drop k rs ≡ qs ++ rs = simp (append_assoc, take-append-drop) in
    rw (p, append_snoc) at
    (enter ms (drop k rs) (qs ++ take k rs) (ns ++ m ∷ []) (rw d at (enter_mark (enter_rules h (take k rs)))) (rw (d, p) t.1))

pub shaped_entered : (rs : List Rule) (ms : List ℕ) → rising 0 ms (length rs) ≡ true → Entered rs ms
shaped_entered rs ms e = enter ms rs [] [] nothing_entered e
