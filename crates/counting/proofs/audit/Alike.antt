-- Pages that differ only in the order of rules between the same marks. Whatever the clerk does to two of them leaves two such pages, and the
-- table of refusals looks only at what is the same on both: how they were opened, and how many rules, marks and stretches there are.
-- Assumes nothing.
use mathlib.Core.Path.{◌≡◌, refl, sym, ap, ap₂, ◌∙◌, subst₂}
use mathlib.Core.List.Permᴰ
use mathlib.Core.List.{List, [], ◌∷◌, ◌++◌, Permᴰ, append_assoc}
use Prim.Native.Nat.{ℕ, suc, ◌+◌}
use native.Mathlib.Decide.{ℕ_discrete}
use lib.ListN.{length, length-append}
use Rattle.rule.specs.declared.Rule.{Rule}
use Rattle.gate.specs.Gate.{gate_rules}
use Rattle.page.specs.declared.Opening.{Opening}
use Rattle.page.specs.Calls.{Call, add, after, ask, back, changed, forward, grounds, is_blank, mark, marks_of, open_at, refusal, rules_of, set_gate, with_rules, written}
use Rattle.page.specs.Page.{Entry, Page, a_mark, a_rule, edition_of, entries_of, laid_aside, marks_on, new_page, no_page, page, pile_of, rules_on, stretch, struck, taken_up, width_of, with_pile}
use Rattle.page.proofs.Refusals.{after_accepted, after_refused}

-- ---- entries

pub data Alike : List Entry → List Entry → Type 0 where
  no_entry : Alike [] []
  one_more : {es ds : List Entry} (e : Entry) → Alike es ds → Alike (e ∷ es) (e ∷ ds)
  two_rules : {es ds : List Entry} (r u : Rule) → Alike es ds → Alike (a_rule r ∷ a_rule u ∷ es) (a_rule u ∷ a_rule r ∷ ds)
  and_on : {cs ds es : List Entry} → Alike cs ds → Alike ds es → Alike cs es

alike_self : (es : List Entry) → Alike es es
alike_self [] = no_entry
alike_self (e ∷ es) = one_more e (alike_self es)

-- the rules are the same in another order
pub rules_alike : {es ds : List Entry} → Alike es ds → Permᴰ (rules_on es) (rules_on ds)
unfolding rules_on
rules_alike no_entry = Permᴰ.nil
rules_alike (one_more (a_rule r) d) = Permᴰ.append_right (r ∷ []) (rules_alike d)
rules_alike (one_more a_mark d) = rules_alike d
rules_alike (two_rules {es} {ds} r u d) =
    Permᴰ.trans
    (subst₂ Permᴰ (sym (append_assoc (rules_on es) (u ∷ []) (r ∷ []))) (sym (append_assoc (rules_on es) (r ∷ []) (u ∷ [])))
    (Permᴰ.append_left (rules_on es) (Permᴰ.swap refl refl)))
    (Permᴰ.append_right (u ∷ []) (Permᴰ.append_right (r ∷ []) (rules_alike d)))
rules_alike (and_on c d) = Permᴰ.trans (rules_alike c) (rules_alike d)

-- and as many
pub rules_many : {es ds : List Entry} → Alike es ds → length (rules_on es) ≡ length (rules_on ds)
unfolding rules_on
rules_many no_entry = refl
rules_many (one_more (a_rule r) d) = simp length-append (ap (λ (n : ℕ). n + 1) (rules_many d))
rules_many (one_more a_mark d) = rules_many d
rules_many (two_rules r u d) = simp length-append (ap (λ (n : ℕ). n + 1 + 1) (rules_many d))
rules_many (and_on c d) = rules_many c ∙ rules_many d

-- the marks are the same, with as many rules above each
pub marks_alike : {es ds : List Entry} → Alike es ds → marks_on es ≡ marks_on ds
unfolding marks_on
marks_alike no_entry = refl
marks_alike (one_more (a_rule r) d) = marks_alike d
marks_alike (one_more a_mark d) = ap₂ (λ (ms : List ℕ) (n : ℕ). ms ++ n ∷ []) (marks_alike d) (rules_many d)
marks_alike (two_rules r u d) = marks_alike d
marks_alike (and_on c d) = marks_alike c ∙ marks_alike d

struck_alike : {es ds : List Entry} → Alike es ds → Alike (struck es) (struck ds)
unfolding struck
struck_alike no_entry = no_entry
struck_alike (one_more (a_rule r) d) = struck_alike d
struck_alike (one_more a_mark d) = d
struck_alike (two_rules r u d) = struck_alike d
struck_alike (and_on c d) = and_on (struck_alike c) (struck_alike d)

stretch_alike : {es ds : List Entry} → Alike es ds → Alike (stretch es) (stretch ds)
unfolding stretch
stretch_alike no_entry = no_entry
stretch_alike (one_more (a_rule r) d) = one_more (a_rule r) (stretch_alike d)
stretch_alike (one_more a_mark d) = one_more a_mark no_entry
stretch_alike (two_rules r u d) = two_rules r u (stretch_alike d)
stretch_alike (and_on c d) = and_on (stretch_alike c) (stretch_alike d)

-- one list of entries below another
below_left : {cs ds : List Entry} (es : List Entry) → Alike cs ds → Alike (cs ++ es) (ds ++ es)
below_left es no_entry = alike_self es
below_left es (one_more e d) = one_more e (below_left es d)
below_left es (two_rules r u d) = two_rules r u (below_left es d)
below_left es (and_on c d) = and_on (below_left es c) (below_left es d)

below_right : {cs ds : List Entry} (es : List Entry) → Alike cs ds → Alike (es ++ cs) (es ++ ds)
below_right [] d = d
below_right (e ∷ es) d = one_more e (below_right es d)

-- rules written below what stands
rules_below : (rs : List Rule) {es ds : List Entry} → Alike es ds → Alike (with_rules rs es) (with_rules rs ds)
unfolding with_rules
rules_below [] d = d
rules_below (r ∷ rs) d = rules_below rs (one_more (a_rule r) d)

-- ---- stretches that wait

pub data Waiting : List (List Entry) → List (List Entry) → Type 0 where
  nothing_waits : Waiting [] []
  one_waits : {s t : List Entry} {ss ts : List (List Entry)} → Alike s t → Waiting ss ts → Waiting (s ∷ ss) (t ∷ ts)

waiting_self : (ss : List (List Entry)) → Waiting ss ss
waiting_self [] = nothing_waits
waiting_self (s ∷ ss) = one_waits (alike_self s) (waiting_self ss)

waiting_on : {rs ss ts : List (List Entry)} → Waiting rs ss → Waiting ss ts → Waiting rs ts
waiting_on nothing_waits nothing_waits = nothing_waits
waiting_on (one_waits c p) (one_waits d q) = one_waits (and_on c d) (waiting_on p q)

waiting_many : {ss ts : List (List Entry)} → Waiting ss ts → length ss ≡ length ts
waiting_many nothing_waits = refl
waiting_many (one_waits d p) = ap suc (waiting_many p)

-- ---- pages

pub data Pages : Page → Page → Type 0 where
  no_pages : Pages no_page no_page
  pages : (g : Opening) {es ds : List Entry} {ss ts : List (List Entry)} → Alike es ds → Waiting ss ts
      → Pages (page (with_pile (new_page g) es ss)) (page (with_pile (new_page g) ds ts))

pub pages_self : (pg : Page) → Pages pg pg
pages_self no_page = no_pages
pages_self (page o) = pages o.opening (alike_self o.entries) (waiting_self o.pile)

pub pages_on : {pg qg rg : Page} → Pages pg qg → Pages qg rg → Pages pg rg
pages_on no_pages no_pages = no_pages
pages_on (pages g c p) (pages _ d q) = pages g (and_on c d) (waiting_on p q)

-- the table says the same of both
same_grounds : {pg qg : Page} → Pages pg qg → (c : Call) → grounds pg c ≡ grounds qg c
unfolding grounds is_blank width_of edition_of rules_of marks_of pile_of entries_of
same_grounds no_pages c = refl
same_grounds (pages g d p) (open_at k) = refl
same_grounds (pages g d p) (add e r) = rw (rules_many d)
same_grounds (pages g d p) mark = rw (marks_alike d)
same_grounds (pages g d p) back = rw (marks_alike d)
same_grounds (pages g d p) forward = rw (waiting_many p)
same_grounds (pages g d p) (ask m) = rw (rules_many d)
same_grounds (pages g d p) (set_gate k) = rw (rules_many d)

pub same_refusal : {pg qg : Page} → Pages pg qg → (c : Call) → refusal pg c ≡ refusal qg c
unfolding refusal
same_refusal d c = rw (same_grounds d c)

taken_alike : (g : Opening) {es ds : List Entry} {ss ts : List (List Entry)} → Alike es ds → Waiting ss ts
    → Pages (page (taken_up ss (with_pile (new_page g) es ss))) (page (taken_up ts (with_pile (new_page g) ds ts)))
unfolding taken_up
taken_alike g d nothing_waits = pages g d nothing_waits
taken_alike g {es} {ds} d (one_waits {s} {t} c p) = pages g (and_on (below_left es c) (below_right t d)) p

same_written : {pg qg : Page} → Pages pg qg → (c : Call) → Pages (written pg c) (written qg c)
unfolding written changed laid_aside
same_written d (open_at g) = pages_self (page (new_page g))
same_written no_pages (add e r) = no_pages
same_written (pages g d p) (add e r) = pages g (one_more (a_rule r) d) nothing_waits
same_written no_pages mark = no_pages
same_written (pages g d p) mark = pages g (one_more a_mark d) nothing_waits
same_written no_pages back = no_pages
same_written (pages g d p) back = pages g (struck_alike d) (one_waits (stretch_alike d) p)
same_written no_pages forward = no_pages
same_written (pages g d p) forward = taken_alike g d p
same_written d (ask m) = d
same_written no_pages (set_gate k) = no_pages
same_written (pages g d p) (set_gate k) = pages g (rules_below (gate_rules k) d) nothing_waits

-- after a call, accepted or refused
pub same_after : {pg qg : Page} → Pages pg qg → (c : Call) → Pages (after pg c) (after qg c)
same_after {pg} {qg} d c = go (ℕ_discrete (refusal pg c) 0)
  where
    go : Dec (refusal pg c ≡ 0) → Pages (after pg c) (after qg c)
    go (yes e) = subst₂ Pages (sym (after_accepted pg c e)) (sym (after_accepted qg c (sym (same_refusal d c) ∙ e))) (same_written d c)
    go (no n) = subst₂ Pages (sym (after_refused pg c n)) (sym (after_refused qg c (λ e. n (same_refusal d c ∙ e)))) d
