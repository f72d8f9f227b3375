-- The record of a page after an accepted call, made from the record before it. A step back or forward leaves what is so restored, and
-- with it all rules and marks: only the counters move. An add or a mark clears what waits, and goes into the first place then not in
-- use. What is kept is found anew from the rules that stand. Assumes nothing.
use mathlib.Core.Path.{◌≡◌, refl, sym, ap, ap₂, ◌∙◌, subst}
use mathlib.Core.List.{List, [], ◌∷◌, ◌++◌, append_assoc}
use Prim.Native.Nat.{ℕ, suc, ◌+◌, ◌-◌, ◌≤◌, ◌<◌}
use native.Mathlib.Omega.{arith}
use lib.ListN.{get_or, length, length-append, length-replicate, replicate, set, take}
use lib.Seq.{append_snoc, get_or-append_seam, get_or-take, set-append_seam, take-append_seam, take_at}
use Rattle.rule.specs.declared.Rule.{Rule}
use Rattle.rule.specs.Meaning.{RULES}
use Rattle.rule.specs.accept.Accept.{no_rule}
use Rattle.search.specs.verdict.Kept.{kept}
use Rattle.sheet.specs.declared.Sheet.{Sheet}
use Rattle.page.specs.Page.{Entry, MARKS, OpenPage, a_mark, a_rule, laid_aside, marks_on, padded, page, restored, rules_on, stretch, struck, taken_up, with_entries, with_pile}
use Rattle.sheet.specs.Record.{fresh}
use Rattle.sheet.specs.slate.route.Shape.{in_force}
use Rattle.sheet.proofs.slate.Shaped.{none_waits, some_wait}
use Rattle.page.proofs.Lawful.{LawfulPile}
use Rattle.page.proofs.Stretches.{Stretches, marks_more, restored_marked, restored_marks, restored_rules, stretch-struck, waiting_marks, waiting_rules}
use Rattle.page.proofs.Struck.{count_left, marks_left_length, newest}

-- ---- places not in use

module _ {A : Type 0} (n : ℕ) (z : A) (xs : List A) where
  padded-length : length xs ≤ n → length (padded n z xs) ≡ n
  padded-length h = omega (arith, length-append xs (replicate (n - length xs) z), length-replicate (n - length xs) z)

  module _ (h : length xs < n) where
    next_place : padded n z xs ≡ xs ++ z ∷ replicate (n - suc (length xs)) z
    next_place = let e : n - length xs ≡ suc (n - suc (length xs)) = omega arith in ap (λ (k : ℕ). xs ++ replicate k z) e

    next_taken : (x : A) → padded n z (xs ++ x ∷ []) ≡ xs ++ x ∷ replicate (n - suc (length xs)) z
    next_taken x =
        let e : n - length (xs ++ x ∷ []) ≡ n - suc (length xs) = omega (arith, length-append xs (x ∷ [])) in
        ap (λ (k : ℕ). xs ++ x ∷ [] ++ replicate k z) e ∙ append_snoc xs x (replicate (n - suc (length xs)) z)

    padded_more : (x : A) → padded n z (xs ++ x ∷ []) ≡ set (padded n z xs) (length xs) x
    padded_more x =
        next_taken x
        ∙ sym (ap (λ (l : List A). set l (length xs) x) next_place ∙ set-append_seam xs z (replicate (n - suc (length xs)) z) x)

-- ---- what stands, of what is restored

module _ (ss : List (List Entry)) (es : List Entry) (zs : List Rule) where
  standing_rules : take (length (rules_on es)) (rules_on (restored ss es) ++ zs) ≡ rules_on es
  standing_rules = rw (restored_rules ss es, append_assoc (rules_on es)) (take-append_seam (rules_on es) (waiting_rules ss ++ zs))

module _ (ss : List (List Entry)) (es : List Entry) (h : Stretches ss) (zs : List ℕ) where
  standing_marks : take (length (marks_on es)) (marks_on (restored ss es) ++ zs) ≡ marks_on es
  standing_marks = rw (restored_marks ss es h, append_assoc (marks_on es)) (take-append_seam (marks_on es) (waiting_marks (length (rules_on es)) ss ++ zs))

-- the mark next to come back notes the rules that stand
pub in_force_lem : (ss : List (List Entry)) (es : List Entry) → Stretches ss → (zs : List ℕ)
    → in_force (length (rules_on (restored ss es))) (marks_on (restored ss es) ++ zs) (length (marks_on es)) (length ss) ≡ length (rules_on es)
unfolding restored waiting_marks
in_force_lem [] es h zs = none_waits _ _ _ refl
in_force_lem (s ∷ ss) es h zs =
    let n : ℕ = length (rules_on es) in
    let ms : List ℕ = marks_on es in
    some_wait _ _ _ (omega arith)
    ∙ ap (λ (l : List ℕ). get_or (l ++ zs) (length ms) 0) (restored_marks (s ∷ ss) es h)
    ∙ ap (λ (l : List ℕ). get_or l (length ms) 0) (append_assoc ms (n ∷ waiting_marks (n + length (rules_on s)) ss) zs)
    ∙ get_or-append_seam ms n (waiting_marks (n + length (rules_on s)) ss ++ zs) 0

-- ---- what a sheet's record says of its page

pub record Given (o : OpenPage) (s : Sheet) : Type 0 where
  pub width : s.width ≡ o.opening.width
  pub rules : take s.count s.rules ≡ rules_on o.entries
  pub count : s.count ≡ length (rules_on o.entries)
  pub marks : take s.marked s.marks ≡ marks_on o.entries
  pub marked : s.marked ≡ length (marks_on o.entries)
  pub rules_length : length s.rules ≡ RULES
  pub marks_length : length s.marks ≡ MARKS
  -- with every waiting stretch written back
  pub all_rules : take s.given s.rules ≡ rules_on (restored o.pile o.entries)
  pub all_marks : take (s.marked + s.waiting) s.marks ≡ marks_on (restored o.pile o.entries)
  pub waiting : s.waiting ≡ length o.pile
  pub edition : s.edition ≡ o.opening.edition
  pub given_low : s.count ≤ s.given

-- ---- the records that the calls make

-- nothing waits any more
abbrev pub cleared : Sheet → Sheet
cleared s =
    record {
      width = s.width;
      rules = take s.count s.rules ++ replicate (RULES - s.count) no_rule;
      count = s.count;
      marks = take s.marked s.marks ++ replicate (MARKS - s.marked) 0;
      marked = s.marked;
      kept = s.kept;
      given = s.count;
      waiting = 0;
      edition = s.edition;
    }

-- one rule or one mark more, where nothing waits
abbrev pub with_rule : Sheet → Rule → Sheet
with_rule s r =
    record {
      width = s.width;
      rules = set s.rules s.count r;
      count = s.count + 1;
      marks = s.marks;
      marked = s.marked;
      kept = kept s.width (take (s.count + 1) (set s.rules s.count r));
      given = s.count + 1;
      waiting = 0;
      edition = s.edition;
    }

abbrev pub with_mark : Sheet → Sheet
with_mark s =
    record {
      width = s.width;
      rules = s.rules;
      count = s.count;
      marks = set s.marks s.marked s.count;
      marked = s.marked + 1;
      kept = s.kept;
      given = s.count;
      waiting = 0;
      edition = s.edition;
    }

-- the same rules and marks, of which so many rules and marks are in force, and so many stretches wait
abbrev pub moved : Sheet → (count marked waiting : ℕ) → Sheet
moved s n m v =
    record {
      width = s.width;
      rules = s.rules;
      count = n;
      marks = s.marks;
      marked = m;
      kept = kept s.width (take n s.rules);
      given = s.given;
      waiting = v;
      edition = s.edition;
    }

-- how many rules a step back leaves, and how many are in force after a step forward
abbrev pub leaves : Sheet → ℕ
leaves s = get_or s.marks (s.marked - 1) 0

abbrev pub brings : Sheet → ℕ
brings s = in_force s.given s.marks (s.marked + 1) (s.waiting - 1)

abbrev pub stepped_back : Sheet → Sheet
stepped_back s = moved s (leaves s) (s.marked - 1) (s.waiting + 1)

abbrev pub stepped_forward : Sheet → Sheet
stepped_forward s = moved s (brings s) (s.marked + 1) (s.waiting - 1)

module _ (o : OpenPage) where
  abbrev es : List Entry
  es = o.entries

  abbrev w : ℕ
  w = o.opening.width

  abbrev all : List Entry
  all = restored o.pile es

  module _ (l : LawfulPile o) where
    abbrev no_rules : List Rule
    no_rules = replicate (RULES - length (rules_on all)) no_rule

    abbrev no_marks : List ℕ
    no_marks = replicate (MARKS - length (marks_on all)) 0

    all_marked : length (marks_on all) ≡ length (marks_on es) + length o.pile
    all_marked = restored_marked o.pile es l.stretches

    given_fresh : Given o (fresh (page o))
    unfolding fresh
    given_fresh =
        record {
          width = refl;
          rules = standing_rules o.pile es no_rules;
          count = refl;
          marks = standing_marks o.pile es l.stretches no_marks;
          marked = refl;
          rules_length = padded-length RULES no_rule (rules_on all) l.restores.rules_fit;
          marks_length = padded-length MARKS 0 (marks_on all) l.restores.marks_fit;
          all_rules = take-append_seam (rules_on all) no_rules;
          all_marks = take_at (marks_on all) no_marks _ all_marked;
          waiting = refl;
          edition = refl;
          given_low = omega (arith, ap length (restored_rules o.pile es), length-append (rules_on es) (waiting_rules o.pile));
        }

    clear_fresh : fresh (page (with_entries o es)) ≡ cleared (fresh (page o))
    unfolding fresh restored
    clear_fresh =
        λ i. record {
          width = w;
          rules = sym (standing_rules o.pile es no_rules) i ++ replicate (RULES - length (rules_on es)) no_rule;
          count = length (rules_on es);
          marks = sym (standing_marks o.pile es l.stretches no_marks) i ++ replicate (MARKS - length (marks_on es)) 0;
          marked = length (marks_on es);
          kept = kept w (rules_on es);
          given = length (rules_on es);
          waiting = 0;
          edition = o.opening.edition;
        }

  add_fresh : (r : Rule) → length (rules_on es) < RULES → fresh (page (with_entries o (a_rule r ∷ es))) ≡ with_rule (fresh (page (with_entries o es))) r
  unfolding fresh rules_on marks_on restored
  add_fresh r h =
      let rs : List Rule = rules_on es in
      let more = padded_more RULES no_rule rs h r in
      let n = length-append rs (r ∷ []) in
      let whole = take_at (rs ++ r ∷ []) (replicate (RULES - length (rs ++ r ∷ [])) no_rule) (length rs + 1) n in
      let held = sym whole ∙ ap (take (length rs + 1)) more in
      λ i. record {
        width = w;
        rules = more i;
        count = n i;
        marks = padded MARKS 0 (marks_on es);
        marked = length (marks_on es);
        kept = kept w (held i);
        given = n i;
        waiting = 0;
        edition = o.opening.edition;
      }

  mark_fresh : length (marks_on es) < MARKS → fresh (page (with_entries o (a_mark ∷ es))) ≡ with_mark (fresh (page (with_entries o es)))
  unfolding fresh rules_on marks_on restored
  mark_fresh h =
      let n : ℕ = length (rules_on es) in
      let more = padded_more MARKS 0 (marks_on es) h n in
      λ i. record {
        width = w;
        rules = padded RULES no_rule (rules_on es);
        count = n;
        marks = more i;
        marked = length-append (marks_on es) (n ∷ []) i;
        kept = kept w (rules_on es);
        given = n;
        waiting = 0;
        edition = o.opening.edition;
      }

  -- another way to part what is restored
  moved-fresh : (ss : List (List Entry)) (fs : List Entry) → restored ss fs ≡ all
      → fresh (page (with_pile o fs ss)) ≡ moved (fresh (page o)) (length (rules_on fs)) (length (marks_on fs)) (length ss)
  unfolding fresh
  moved-fresh ss fs same =
      let n : ℕ = length (rules_on fs) in
      let stand =
      sym (standing_rules ss fs (replicate (RULES - length (rules_on (restored ss fs))) no_rule))
      ∙ ap (λ (ds : List Entry). take n (padded RULES no_rule (rules_on ds))) same in
      λ i. record {
        width = w;
        rules = padded RULES no_rule (rules_on (same i));
        count = n;
        marks = padded MARKS 0 (marks_on (same i));
        marked = length (marks_on fs);
        kept = kept w (stand i);
        given = length (rules_on (same i));
        waiting = length ss;
        edition = o.opening.edition;
      }

  module _ (l : LawfulPile o) (some : 0 < length (marks_on es)) where
    leaves-newest : leaves (fresh (page o)) ≡ newest (marks_on es)
    unfolding fresh
    leaves-newest =
        let n : ℕ = length (marks_on es) in
        sym (get_or-take n (padded MARKS 0 (marks_on all)) (n - 1) 0 (omega arith))
        ∙ ap (λ (ms : List ℕ). get_or ms (n - 1) 0) (standing_marks o.pile es l.stretches (no_marks l))

    back_fresh : fresh (page (laid_aside o)) ≡ stepped_back (fresh (page o))
    unfolding fresh laid_aside restored
    back_fresh =
        let n = count_left es some ∙ sym leaves-newest in
        let v : suc (length o.pile) ≡ length o.pile + 1 = omega arith in
        moved-fresh (stretch es ∷ o.pile) (struck es) (ap (restored o.pile) (stretch-struck es))
        ∙ (λ i. moved (fresh (page o)) (n i) (marks_left_length es some i) (v i))

module _ (o : OpenPage) (es : List Entry) where
  abbrev f : List (List Entry) → Sheet
  f ss = fresh (page (with_pile o es ss))

  module _ (s : List Entry) (ss : List (List Entry)) (h : Stretches (s ∷ ss)) where
    marks_brought : length (marks_on (s ++ es)) ≡ length (marks_on es) + 1
    marks_brought = ap length (marks_more es h.0) ∙ length-append (marks_on es) (length (rules_on es) ∷ [])

    fewer_wait : length ss ≡ suc (length ss) - 1
    fewer_wait = omega arith

    rules_brought : length (rules_on (s ++ es)) ≡ brings (f (s ∷ ss))
    unfolding fresh restored
    rules_brought =
        sym (in_force_lem ss (s ++ es) h.1 _) ∙ ap₂ (in_force (f (s ∷ ss)).given (f (s ∷ ss)).marks) marks_brought fewer_wait

  forward_fresh : (ss : List (List Entry)) → Stretches ss → 0 < length ss → fresh (page (taken_up ss (with_pile o es ss))) ≡ stepped_forward (f ss)
  unfolding fresh taken_up restored
  forward_fresh [] h some = absurd (omega arith)
  forward_fresh (s ∷ ss) h some =
      moved-fresh (with_pile o es (s ∷ ss)) ss (s ++ es) refl
      ∙ (λ i. moved (f (s ∷ ss)) (rules_brought s ss h i) (marks_brought s ss h i) (fewer_wait s ss h i))

-- ---- so of any record that a page gives

module _ (o : OpenPage) {s : Sheet} (e : s ≡ fresh (page o)) (l : LawfulPile o) where
  pub given : Given o s
  given = subst (Given o) (sym e) (given_fresh o l)

  after_clear : fresh (page (with_entries o o.entries)) ≡ cleared s
  after_clear = clear_fresh o l ∙ ap cleared (sym e)

  pub after_add : (r : Rule) → length (rules_on o.entries) < RULES
      → fresh (page (with_entries o (a_rule r ∷ o.entries))) ≡ with_rule (cleared s) r
  after_add r h = add_fresh o r h ∙ ap (λ (t : Sheet). with_rule t r) after_clear

  pub after_mark : length (marks_on o.entries) < MARKS → fresh (page (with_entries o (a_mark ∷ o.entries))) ≡ with_mark (cleared s)
  after_mark h = mark_fresh o h ∙ ap with_mark after_clear

  module _ (some : 0 < length (marks_on o.entries)) where
    pub after_back : fresh (page (laid_aside o)) ≡ stepped_back s
    after_back = back_fresh o l some ∙ ap stepped_back (sym e)

  module _ (some : 0 < length o.pile) where
    pub after_forward : fresh (page (taken_up o.pile o)) ≡ stepped_forward s
    after_forward = forward_fresh o o.entries o.pile l.stretches some ∙ ap stepped_forward (sym e)
