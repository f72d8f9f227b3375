-- Each sheet has one page and one pile: the newest entry is a mark where the last mark says that all rules stand above it, and else a
-- rule, so that the rules and the marks in order fix the entries, and the number of stretches that wait fixes the pile; and no page has
-- width 0, as the blank sheet has. By induction on the entries. Assumes nothing.
use mathlib.Core.Path.{◌≡◌, refl, sym, ap, ap₂, ◌∙◌}
use mathlib.Core.List.{List, [], ◌∷◌, ◌++◌}
use Prim.Native.Nat.{ℕ, ◌+◌, ◌<◌}
use native.Mathlib.Omega.{arith}
use lib.ListN.{get_or, length, length-append, take}
use lib.Seq.{get_or-append_seam, get_or_at, take-append_seam, take_at}
use Rattle.rule.specs.declared.Rule.{Rule}
use Rattle.page.specs.Page.{Entry, Page, a_mark, a_rule, marks_on, no_page, page, rules_on, struck}
use Rattle.sheet.specs.Record.{fresh}
use Rattle.page.specs.Reached.{Reached}
use Rattle.page.proofs.Lawful.{LawfulPage, reached_page}
use Rattle.page.proofs.Stretches.{one_pile}
use Rattle.page.proofs.Struck.{count_left, marks_split, newest_low}
use Rattle.sheet.proofs.Fresh.{given}

module _ {A : Type 0} where
  length_more : (xs : List A) (x : A) → length (xs ++ x ∷ []) ≡ length xs + 1
  length_more xs x = length-append xs (x ∷ [])

  -- two lists with one element more each
  same_ends : (xs ys : List A) (x y : A) → xs ++ x ∷ [] ≡ ys ++ y ∷ [] → (xs ≡ ys) × (x ≡ y)
  same_ends xs ys x y e =
      let n : length ys ≡ length xs = omega (arith, ap length e, length_more xs x, length_more ys y) in (
        sym (take-append_seam xs (x ∷ [])) ∙ ap (take (length xs)) e ∙ take_at ys (y ∷ []) (length xs) n,
        sym (get_or-append_seam xs x [] x) ∙ ap (λ (l : List A). get_or l (length xs) x) e ∙ get_or_at ys y [] x (length xs) n,
      )

  -- no list is none with one element more
  not_none : (xs : List A) (x : A) → [] ≡ xs ++ x ∷ [] → ⊥
  not_none xs x e = omega (arith, ap length e, length_more xs x)

-- the newest mark has at most the rules above it that there are, so it cannot say one more
not_above : (es : List Entry) (ms : List ℕ) (n : ℕ) → marks_on es ≡ ms ++ n ∷ [] → length (rules_on es) < n → ⊥
not_above es ms n e h =
    let some : 0 < length (marks_on es) = omega (arith, ap length e, length_more ms n) in
    let s = same_ends (marks_on (struck es)) ms (length (rules_on (struck es))) n (sym (marks_split es some) ∙ e) in
    omega (arith, count_left es some, newest_low es some)

same_entries : (es fs : List Entry) → rules_on es ≡ rules_on fs → marks_on es ≡ marks_on fs → es ≡ fs
unfolding rules_on marks_on
same_entries [] [] r m = refl
same_entries [] (a_rule u ∷ fs) r m = absurd (not_none (rules_on fs) u r)
same_entries [] (a_mark ∷ fs) r m = absurd (not_none (marks_on fs) (length (rules_on fs)) m)
same_entries (a_rule u ∷ es) [] r m = absurd (not_none (rules_on es) u (sym r))
same_entries (a_rule u ∷ es) (a_rule v ∷ fs) r m =
    let s = same_ends (rules_on es) (rules_on fs) u v r in
    ap₂ (λ (x : Rule) (l : List Entry). a_rule x ∷ l) s.1 (same_entries es fs s.0 m)
same_entries (a_rule u ∷ es) (a_mark ∷ fs) r m =
    absurd (not_above es (marks_on fs) (length (rules_on fs)) m (omega (arith, ap length r, length_more (rules_on es) u)))
same_entries (a_mark ∷ es) [] r m = absurd (not_none (marks_on es) (length (rules_on es)) (sym m))
same_entries (a_mark ∷ es) (a_rule v ∷ fs) r m =
    absurd (not_above fs (marks_on es) (length (rules_on es)) (sym m) (omega (arith, ap length r, length_more (rules_on fs) v)))
same_entries (a_mark ∷ es) (a_mark ∷ fs) r m =
    let s = same_ends (marks_on es) (marks_on fs) (length (rules_on es)) (length (rules_on fs)) m in
    ap (λ (l : List Entry). a_mark ∷ l) (same_entries es fs r s.0)

same_page : (pg qg : Page) → LawfulPage pg → LawfulPage qg → fresh pg ≡ fresh qg → pg ≡ qg
unfolding fresh
same_page no_page no_page l k e = refl
same_page no_page (page o) l k e = absurd (omega (arith, k.restores.low, (given o e k).width))
same_page (page o) no_page l k e = absurd (omega (arith, l.restores.low, (given o (sym e) l).width))
same_page (page o) (page q) l k e =
    let g = given o refl l in
    let h = given q e k in
    let all = same_entries _ _ (sym g.all_rules ∙ h.all_rules) (sym g.all_marks ∙ h.all_marks) in
    let same = one_pile o.pile q.pile o.entries q.entries l.stretches k.stretches (sym g.waiting ∙ h.waiting) all in
    λ i. page (record { opening = record { width = (sym g.width ∙ h.width) i; edition = (sym g.edition ∙ h.edition) i }; entries = same.0 i; pile = same.1 i })

pub one_page : {pg qg : Page} → Reached pg → Reached qg → fresh pg ≡ fresh qg → pg ≡ qg
one_page {pg} {qg} r s e = same_page pg qg (reached_page r) (reached_page s) e
