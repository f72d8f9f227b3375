-- What a well shaped sheet that is laid out tells of its rules and marks: each test says it of its part. Marks that rise up to the rules
-- given lie in order and among them, so that no more rules are in force than were given, and the first of rules that would all be
-- accepted are lawful. Assumes nothing.
use mathlib.Core.Path.{◌≡◌, refl, sym, ap, ap₂, ◌∙◌, subst, subst₂}
use mathlib.Core.Bool.{Bool, true, ◌&&◌}
use mathlib.Core.List.{List, [], ◌∷◌, ◌++◌}
use Prim.Native.Nat.{ℕ, zero, suc, ◌+◌, ◌-◌, ◌≤◌, ◌<◌}
use native.Mathlib.Decide.{ℕ_discrete}
use native.Mathlib.Omega.{arith}
use borrow.Author.Tests.{eq-eqb, eqb-true, leb-true, ne_eqb}
use lib.Dec.{eqb, leb}
use lib.ListN.{drop, get_or, length, length-drop, replicate, take, take-append-drop}
use lib.Seq.{get_or-take, length-take-le, take-take}
use Rattle.word.proofs.Tests.{both_pass}
use Rattle.rule.specs.declared.Rule.{Rule}
use Rattle.rule.specs.Meaning.{AllLawful, RULES}
use Rattle.rule.specs.accept.Accept.{acceptable, every, is_no_rule, no_rule}
use Rattle.rule.proofs.accept.Accepted.{all_lawful}
use Rattle.rule.proofs.accept.Every.{even_every, every_append}
use Rattle.search.specs.declared.verdict.Kept.{Kept}
use Rattle.page.specs.Page.{MARKS}
use Rattle.page.specs.route.Shape.{is_zero, marks_shaped, rising, rules_shaped}
use Rattle.sheet.specs.declared.slate.Head.{Head}
use Rattle.sheet.specs.slate.route.Shape.{in_force, same_kept, well_shaped}

pub same_passes : (k : Kept) → same_kept k k ≡ true
unfolding same_kept
same_passes k = ap₂ ◌&&◌ (eq-eqb k.verdict _ refl) (ap₂ ◌&&◌ (eq-eqb k.smallest _ refl) (eq-eqb k.largest _ refl))

pub passes_same : (k l : Kept) → same_kept k l ≡ true → k ≡ l
unfolding same_kept
passes_same k l e =
    let verdict = both_pass (eqb k.verdict l.verdict) _ e in
    let words = both_pass (eqb k.smallest l.smallest) _ verdict.1 in
    λ i. record {
      verdict = eqb-true k.verdict l.verdict verdict.0 i;
      smallest = eqb-true k.smallest l.smallest words.0 i;
      largest = eqb-true k.largest l.largest words.1 i;
    }

-- ---- how many rules are in force

module _ (given : ℕ) (ms : List ℕ) (marked : ℕ) {waiting : ℕ} where
  pub none_waits : waiting ≡ 0 → in_force given ms marked waiting ≡ given
  unfolding in_force
  none_waits z = rw (eq-eqb waiting 0 z)

  pub some_wait : 0 < waiting → in_force given ms marked waiting ≡ get_or ms marked 0
  unfolding in_force
  some_wait h = rw (ne_eqb waiting 0 (λ z. omega arith))

-- ---- numbers that rise

between : (low : ℕ) (l : List ℕ) (high : ℕ) → rising low l high ≡ true → (i : ℕ) → i < length l → (low ≤ get_or l i 0) × (get_or l i 0 ≤ high)
unfolding rising
between low [] high e i h = absurd (omega arith)
between low (m ∷ []) high e zero h =
    let t = both_pass (leb low m) (leb m high) e in (leb-true low m t.0, leb-true m high t.1)
between low (m ∷ n ∷ ns) high e zero h =
    let t = both_pass (leb low m) (rising m (n ∷ ns) high) e in
    let b = between m (n ∷ ns) high t.1 zero (omega arith) in
    (leb-true low m t.0, omega (arith, b.0, b.1))
between low (m ∷ ms) high e (suc i) h =
    let t = both_pass (leb low m) (rising m ms high) e in
    let b = between m ms high t.1 i (omega arith) in
    (omega (arith, leb-true low m t.0, b.0), b.1)

next_above : (low : ℕ) (l : List ℕ) (high : ℕ) → rising low l high ≡ true → (i : ℕ) → suc i < length l → get_or l i 0 ≤ get_or l (suc i) 0
unfolding rising
next_above low [] high e i h = absurd (omega arith)
next_above low (m ∷ ms) high e zero h = (between m ms high (both_pass (leb low m) (rising m ms high) e).1 zero (omega arith)).0
next_above low (m ∷ ms) high e (suc i) h = next_above m ms high (both_pass (leb low m) (rising m ms high) e).1 i (omega arith)

-- ---- a test of all is one of the first

first_pass : {A : Type 0} (f : A → Bool) (g : ℕ) (l : List A) → every f (take g l) ≡ true → (n : ℕ) → n ≤ g → every f (take n l) ≡ true
first_pass f g l e n h =
    let parts : every f (take n (take g l) ++ drop n (take g l)) ≡ true = ap (every f) (take-append-drop n (take g l)) ∙ e in
    ap (every f) (sym (take-take n g l h)) ∙ (both_pass (every f (take n (take g l))) _ (sym (every_append f (take n (take g l)) (drop n (take g l))) ∙ parts)).0

no_rule_lem : (r : Rule) → is_no_rule r ≡ true → r ≡ no_rule
unfolding is_no_rule
no_rule_lem r e =
    let form = both_pass (eqb r.form 0) _ e in
    let sense = both_pass (eqb r.sense 0) _ form.1 in
    let constants = both_pass (eqb r.c1 0) (eqb r.c2 0) sense.1 in
    λ i. record {
      form = eqb-true r.form 0 form.0 i;
      sense = eqb-true r.sense 0 sense.0 i;
      c1 = eqb-true r.c1 0 constants.0 i;
      c2 = eqb-true r.c2 0 constants.1 i;
    }

-- ---- the shape

pub record Shaped (h : Head) (rs : List Rule) (ms : List ℕ) : Type 0 where
  pub given_high : h.counts.given ≤ RULES
  pub marks_high : h.counts.marked + h.counts.waiting ≤ MARKS
  pub counted : h.counts.count ≡ in_force h.counts.given ms h.counts.marked h.counts.waiting
  pub good_rules : every (acceptable h.opening.width) (take h.counts.given rs) ≡ true
  pub rules_after : drop h.counts.given rs ≡ replicate (RULES - h.counts.given) no_rule
  pub rise : rising 0 (take (h.counts.marked + h.counts.waiting) ms) h.counts.given ≡ true
  pub marks_after : drop (h.counts.marked + h.counts.waiting) ms ≡ replicate (MARKS - (h.counts.marked + h.counts.waiting)) 0

-- from place k on, z
after : {A : Type 0} (n : ℕ) (z : A) (l : List A) (k : ℕ) → length l ≡ n → drop k l ≡ replicate (length (drop k l)) z → drop k l ≡ replicate (n - k) z
after n z l k e d =
    let j : length (drop k l) ≡ n - k = omega (arith, length-drop k l) in d ∙ ap (λ (m : ℕ). replicate m z) j

module _ (h : Head) (rs : List Rule) (ms : List ℕ) (rules_places : length rs ≡ RULES) (marks_places : length ms ≡ MARKS) where
  pub shaped_so_lem : well_shaped h rs ms ≡ true → Shaped h rs ms
  unfolding well_shaped rules_shaped marks_shaped
  shaped_so_lem e =
      let v = h.counts.marked + h.counts.waiting in
      let few = both_pass (leb h.counts.given RULES) _ e in
      let low = both_pass (leb h.counts.marked MARKS) _ few.1 in
      let wait = both_pass (leb h.counts.waiting (MARKS - h.counts.marked)) _ low.1 in
      let count = both_pass (eqb h.counts.count (in_force h.counts.given ms h.counts.marked h.counts.waiting)) _ wait.1 in
      let lists = both_pass (rules_shaped h.opening.width h.counts.given rs) _ count.1 in
      let rules = both_pass (every (acceptable h.opening.width) (take h.counts.given rs)) _ lists.0 in
      let marks = both_pass (rising 0 (take v ms) h.counts.given) _ lists.1 in
      record {
        given_high = leb-true h.counts.given RULES few.0;
        marks_high = omega (arith, leb-true h.counts.marked MARKS low.0, leb-true h.counts.waiting (MARKS - h.counts.marked) wait.0);
        counted = eqb-true _ _ count.0;
        good_rules = rules.0;
        rules_after = after RULES no_rule rs h.counts.given rules_places (even_every is_no_rule no_rule no_rule_lem _ rules.1);
        rise = marks.0;
        marks_after = after MARKS 0 ms v marks_places (even_every is_zero 0 (λ m. eqb-true m 0) _ marks.1);
      }

  module _ (s : Shaped h rs ms) where
    -- each mark, in force or waiting, notes at most the rules given
    pub mark_low : (i : ℕ) → i < h.counts.marked + h.counts.waiting → get_or ms i 0 ≤ h.counts.given
    mark_low i l =
        let v = h.counts.marked + h.counts.waiting in
        let size = length-take-le v ms (omega (arith, marks_places, s.marks_high)) in
        subst (λ (m : ℕ). m ≤ h.counts.given) (get_or-take v ms i 0 l) (between 0 (take v ms) h.counts.given s.rise i (omega (arith, size))).1

    -- and the next one no fewer
    pub mark_rise : (i : ℕ) → suc i < h.counts.marked + h.counts.waiting → get_or ms i 0 ≤ get_or ms (suc i) 0
    mark_rise i l =
        let v = h.counts.marked + h.counts.waiting in
        let size = length-take-le v ms (omega (arith, marks_places, s.marks_high)) in
        subst₂ ◌≤◌ (get_or-take v ms i 0 (omega arith)) (get_or-take v ms (suc i) 0 l) (next_above 0 (take v ms) h.counts.given s.rise i (omega (arith, size)))

    pub count_low : h.counts.count ≤ h.counts.given
    count_low =
        elim (ℕ_discrete h.counts.waiting 0) [
          | yes z ↦ omega (arith, s.counted, none_waits h.counts.given ms h.counts.marked z)
          | no z ↦ omega (arith, s.counted, some_wait h.counts.given ms h.counts.marked {waiting = h.counts.waiting} (omega arith), mark_low h.counts.marked (omega arith))
        ]

    pub first_good : (n : ℕ) → n ≤ h.counts.given → every (acceptable h.opening.width) (take n rs) ≡ true
    first_good n l = first_pass (acceptable h.opening.width) h.counts.given rs s.good_rules n l

    pub first_lawful : (n : ℕ) → n ≤ h.counts.given → AllLawful h.opening.width (take n rs)
    first_lawful n l = all_lawful h.opening.width (take n rs) (first_good n l)
