-- Numbers that are a sheet's, and the record that they are read as: what was written is read again, since each number has its place; and what
-- is read as a sheet is what that sheet is written as, since an edition's number that is none leaves the new edition without a width,
-- which no page has. Assumes nothing.
use mathlib.Core.Path.{◌≡◌, refl, sym, ap, ◌∙◌}
use mathlib.Core.Bool.{Bool, true, false, cond}
use mathlib.Core.List.{List, [], ◌∷◌, ◌++◌}
use Prim.Native.Nat.{ℕ, zero, suc, ◌*◌, ◌≤◌, ◌<◌}
use native.Mathlib.Decide.{ℕ_discrete}
use native.Mathlib.Omega.{arith}
use borrow.Author.Tests.{le-ltb, ltb-false, ltb-true, ne_eqb}
use lib.Dec.{eqb, ltb}
use lib.ListN.{drop, get_or, length, length-append, length-drop, take, take-append-drop}
use lib.Seq.{drop_at, drop-cons, drop-drop, take_at}
use Rattle.word.specs.declared.Edition.{Edition}
use Rattle.word.specs.declared.Edition.TheVariants.{New, Old}
use Rattle.rule.specs.declared.Rule.{Rule}
use Rattle.rule.specs.Meaning.{RULES}
use Rattle.page.specs.Page.{MARKS, Page, no_page, page}
use Rattle.page.specs.Reached.{Reached}
use Rattle.page.proofs.Lawful.{reached_lawful, reached_page}
use Rattle.sheet.specs.declared.Sheet.{Sheet}
use Rattle.sheet.specs.Record.{fresh}
use Rattle.sheet.specs.Statements.{IsSheet}
use Rattle.sheet.proofs.Tested.{places, sheet_dec}
use Rattle.outside.specs.handing.Handed.{edition_of}
use Rattle.keeping.specs.kept_numbers.Numbers.{HEAD, IsKept, NUMBERS, RULES_AT, flat, number_of, numbers_of}
use Rattle.keeping.specs.kept_numbers.route.Reading.{marks_in, rules_from, rules_in, sheet_in}
use Rattle.keeping.proofs.kept_numbers.Flat.{flat-length}

-- ---- rules, four numbers each

read_flat : (rs : List Rule) → rules_from (length rs) (flat rs) ≡ rs
unfolding rules_from flat
read_flat [] = refl
read_flat (r ∷ rs) = ap (λ (l : List Rule). r ∷ l) (read_flat rs)

flat_read : (n : ℕ) (ns : List ℕ) → length ns ≡ 4 * n → flat (rules_from n ns) ≡ ns
unfolding rules_from flat
flat_read zero [] h = refl
flat_read zero (a ∷ ns) h = absurd (omega arith)
flat_read (suc n) [] h = absurd (omega arith)
flat_read (suc n) (a ∷ []) h = absurd (omega arith)
flat_read (suc n) (a ∷ b ∷ []) h = absurd (omega arith)
flat_read (suc n) (a ∷ b ∷ c ∷ []) h = absurd (omega arith)
flat_read (suc n) (a ∷ b ∷ c ∷ d ∷ ns) h = ap (λ (l : List ℕ). a ∷ b ∷ c ∷ d ∷ l) (flat_read n ns (omega arith))

-- ---- what was written is read again

read_edition : (e : Edition) → edition_of (number_of e) ≡ e
unfolding number_of
read_edition Old = refl
read_edition New = refl

read_width : (e : Edition) (w : ℕ) → cond (ltb 1 (number_of e)) 0 w ≡ w
unfolding number_of
read_width Old w = refl
read_width New w = refl

module _ (s : Sheet) (rules_many : length s.rules ≡ RULES) (marks_many : length s.marks ≡ MARKS) where
  pub written_read : sheet_in (numbers_of s) ≡ s
  unfolding sheet_in numbers_of rules_in marks_in
  written_read =
      let rules : rules_from RULES (drop MARKS (s.marks ++ flat s.rules)) ≡ s.rules =
      ap (rules_from RULES) (drop_at s.marks (flat s.rules) MARKS marks_many)
      ∙ ap (λ (n : ℕ). rules_from n (flat s.rules)) (sym rules_many)
      ∙ read_flat s.rules in
      λ i. record {
        width = read_width s.edition s.width i;
        rules = rules i;
        count = s.count;
        marks = take_at s.marks (flat s.rules) MARKS marks_many i;
        marked = s.marked;
        kept = s.kept;
        given = s.given;
        waiting = s.waiting;
        edition = read_edition s.edition i;
      }

  numbers_many : length (numbers_of s) ≡ NUMBERS
  unfolding numbers_of
  numbers_many = omega (arith, length-append s.marks (flat s.rules), flat-length s.rules)

-- ---- what is read is written again

edition_written : (b : ℕ) → b ≤ 1 → number_of (edition_of b) ≡ b
unfolding number_of
edition_written zero h = refl
edition_written (suc zero) h = refl
edition_written (suc (suc b)) h = absurd (omega arith)

module _ (ns : List ℕ) (many : length ns ≡ NUMBERS) where
  at : ℕ → ℕ
  at k = get_or ns k 0

  nine : ns ≡ at 0 ∷ at 1 ∷ at 2 ∷ at 3 ∷ at 4 ∷ at 5 ∷ at 6 ∷ at 7 ∷ at 8 ∷ drop HEAD ns
  unfolding at
  nine =
      drop-cons ns 0 0 (omega arith)
      ∙ ap (λ (l : List ℕ). get_or ns 0 0 ∷ l)
      (drop-cons ns 1 0 (omega arith)
      ∙ ap (λ (l : List ℕ). get_or ns 1 0 ∷ l)
      (drop-cons ns 2 0 (omega arith)
      ∙ ap (λ (l : List ℕ). get_or ns 2 0 ∷ l)
      (drop-cons ns 3 0 (omega arith)
      ∙ ap (λ (l : List ℕ). get_or ns 3 0 ∷ l)
      (drop-cons ns 4 0 (omega arith)
      ∙ ap (λ (l : List ℕ). get_or ns 4 0 ∷ l)
      (drop-cons ns 5 0 (omega arith)
      ∙ ap (λ (l : List ℕ). get_or ns 5 0 ∷ l)
      (drop-cons ns 6 0 (omega arith)
      ∙ ap (λ (l : List ℕ). get_or ns 6 0 ∷ l)
      (drop-cons ns 7 0 (omega arith)
      ∙ ap (λ (l : List ℕ). get_or ns 7 0 ∷ l)
      (drop-cons ns 8 0 (omega arith)))))))))

  tail_written : marks_in ns ++ flat (rules_in ns) ≡ drop HEAD ns
  unfolding marks_in rules_in
  tail_written =
      ap (λ (l : List ℕ). take MARKS (drop HEAD ns) ++ l)
      (flat_read RULES (drop RULES_AT ns) (omega (arith, length-drop RULES_AT ns)) ∙ sym (drop-drop MARKS HEAD ns))
      ∙ take-append-drop MARKS (drop HEAD ns)

  read_written : get_or ns 1 0 ≤ 1 → numbers_of (sheet_in ns) ≡ ns
  unfolding sheet_in numbers_of at
  read_written small =
      let width : cond (ltb 1 (get_or ns 1 0)) 0 (get_or ns 0 0) ≡ get_or ns 0 0 = rw (le-ltb 1 (get_or ns 1 0) small) in
      (λ i. width i
      ∷ edition_written (get_or ns 1 0) small i
      ∷ get_or ns 2 0
      ∷ get_or ns 3 0
      ∷ get_or ns 4 0
      ∷ get_or ns 5 0
      ∷ get_or ns 6 0
      ∷ get_or ns 7 0
      ∷ get_or ns 8 0
      ∷ tail_written i)
      ∙ sym nine

-- ---- a sheet's numbers

-- numbers that are a sheet's are read as this sheet
pub kept_read : {ns : List ℕ} {pg : Page} → Reached pg → ns ≡ numbers_of (fresh pg) → sheet_in ns ≡ fresh pg
kept_read {ns} {pg} h e = let z = places pg (reached_page h) in ap sheet_in e ∙ written_read (fresh pg) z.0 z.1

kept_many : {ns : List ℕ} → IsKept ns → length ns ≡ NUMBERS
kept_many {ns} k =
    let z = places k.on (reached_page k.reached) in ap length k.gives ∙ numbers_many (fresh k.on) z.0 z.1

-- no page is of the new edition without a width
no_width : (pg : Page) → Reached pg → (fresh pg).width ≡ 0 → (fresh pg).edition ≡ New → ⊥
unfolding fresh
no_width no_page h z e = let t : ◌≡◌ {A = ℕ} 0 1 = cc in omega arith
no_width (page o) h z e = omega (arith, (reached_lawful h).low)

module _ (ns : List ℕ) where
  edition_small : IsSheet (sheet_in ns) → get_or ns 1 0 ≤ 1
  unfolding sheet_in
  edition_small s = go (ltb 1 (get_or ns 1 0)) refl
    where
      go : (t : Bool) → ltb 1 (get_or ns 1 0) ≡ t → get_or ns 1 0 ≤ 1
      go false e = ltb-false 1 (get_or ns 1 0) e
      go true e =
          let big : 1 < get_or ns 1 0 = ltb-true 1 (get_or ns 1 0) e in
          let width : cond (ltb 1 (get_or ns 1 0)) 0 (get_or ns 0 0) ≡ (fresh s.on).width = ap (λ (t : Sheet). t.width) s.gives in
          let edition : cond (eqb (get_or ns 1 0) 0) Old New ≡ (fresh s.on).edition = ap (λ (t : Sheet). t.edition) s.gives in
          absurd (no_width s.on s.reached (sym (rw e at width)) (sym (rw (ne_eqb (get_or ns 1 0) 0 (omega arith)) at edition)))

  -- what is read as a sheet is what this sheet is written as
  pub sheet_kept : length ns ≡ NUMBERS → IsSheet (sheet_in ns) → IsKept ns
  sheet_kept many s =
      record { on = s.on; reached = s.reached; gives = sym (read_written ns many (edition_small s)) ∙ ap numbers_of s.gives }

  -- so it can be told
  pub kept_dec : Dec (IsKept ns)
  kept_dec = go (ℕ_discrete (length ns) (NUMBERS)) (sheet_dec (sheet_in ns))
    where
      go : Dec (length ns ≡ NUMBERS) → Dec (IsSheet (sheet_in ns)) → Dec (IsKept ns)
      go (no a) s = no (λ k. a (kept_many k))
      go (yes a) (yes s) = yes (sheet_kept a s)
      go (yes a) (no b) = no (λ k. b (record { on = k.on; reached = k.reached; gives = kept_read k.reached k.gives }))
