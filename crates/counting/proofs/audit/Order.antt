-- "Adding the same acceptable rules to a fresh sheet in another order never changes the verdict, smallest, largest or count." Two adds that
-- follow one another are accepted in either order, and leave pages that differ in the order of two rules; all that is called after them keeps
-- the pages so, and what is found goes by the width and the words that fit. Assumes nothing.
use mathlib.Core.Path.{◌≡◌, refl, sym, ap, ap₂, ◌∙◌, subst, subst₂}
use mathlib.Core.Bool.{Bool, true, ◌&&◌}
use mathlib.Core.List.{List, [], ◌∷◌, map, Permᴰ}
use Prim.Native.Nat.{ℕ, ◌^◌, ◌<◌}
use native.Mathlib.Omega.{arith}
use borrow.Author.Tests.{eq-eqb, eqb-true}
use lib.Dec.{eqb}
use lib.ListN.{length, length-append}
use Rattle.word.specs.declared.Edition.{Edition}
use Rattle.word.proofs.Tests.{both_pass}
use Rattle.rule.specs.declared.Rule.{Rule}
use Rattle.rule.specs.Meaning.{RULES}
use Rattle.word.specs.Search.{count, first, last}
use Rattle.search.specs.verdict.Kept.{kept, verdict_of}
use Rattle.page.specs.declared.Opening.{Opening}
use Rattle.page.specs.Calls.{Call, accepts, add, after, ask, changed, clerk, first_that_applies, is_blank, open_at, refusal, rules_of, written}
use Rattle.page.specs.Page.{Entry, OpenPage, Page, a_rule, entries_of, new_page, no_page, page, rules_on, width_of, with_entries, with_pile}
use Rattle.page.specs.Reached.{Reached, start}
use Rattle.page.proofs.Refusals.{add_fits, added_rule, after_accepted, after-ask, blank_add}
use Rattle.page.proofs.Replayed.{after_reached, clerk_reached}
use Rattle.sheet.specs.declared.Answer.{Answer}
use Rattle.sheet.specs.declared.Sheet.{Sheet}
use Rattle.sheet.specs.Record.{blank, fresh}
use Rattle.sheet.specs.Statements.{AllAccepted, Sequence, asks, calls, done}
use Rattle.sheet.proofs.demands.Demand.{as_fresh, outcome_on, sequence_accepted}
use Rattle.counting.specs.fitting.Words.{how_many}
use Rattle.counting.specs.Share.{shares}
use Rattle.counting.specs.Counted.{count_grounds, share_of}
use Rattle.counting.specs.audit.Audit.{Reordered, SameFound, and_then, none, opened_and_given, same, swapped}
use Rattle.counting.proofs.audit.Alike.{Alike, Pages, Waiting, no_pages, nothing_waits, pages, pages_on, pages_self, rules_alike, rules_many, same_after, same_refusal, two_rules}
use Rattle.counting.proofs.audit.Answers.{asked_kept, asked_number}
use Rattle.counting.proofs.audit.Fitting.{same_words}

-- ---- an add that is accepted, and what comes after it

abbrev added : OpenPage → Rule → OpenPage
added o r = with_entries o (a_rule r ∷ o.entries)

after-add : (o : OpenPage) (e : Edition) (r : Rule) → refusal (page o) (add e r) ≡ 0 → after (page o) (add e r) ≡ page (added o r)
unfolding written changed
after-add o e r z = after_accepted (page o) (add e r) z

-- calls of which the first is an accepted add
record Adds (o : OpenPage) (e : Edition) (r : Rule) (cs : List Call) : Type 0 where
  fits : refusal (page o) (add e r) ≡ 0
  rest : accepts (page (added o r)) cs ≡ true

adds : (o : OpenPage) (e : Edition) (r : Rule) (cs : List Call) → accepts (page o) (add e r ∷ cs) ≡ true → Adds o e r cs
unfolding accepts
adds o e r cs a =
    let t = both_pass (eqb (refusal (page o) (add e r)) 0) (accepts (after (page o) (add e r)) cs) a in
    let z = eqb-true (refusal (page o) (add e r)) 0 t.0 in
    record { fits = z; rest = ap (λ (pg : Page). accepts pg cs) (sym (after-add o e r z)) ∙ t.1 }

adds_accepted : {o : OpenPage} {e : Edition} {r : Rule} {cs : List Call} → Adds o e r cs → accepts (page o) (add e r ∷ cs) ≡ true
unfolding accepts
adds_accepted {o} {e} {r} {cs} a =
    ap₂ ◌&&◌ (eq-eqb (refusal (page o) (add e r)) 0 a.fits) (ap (λ (pg : Page). accepts pg cs) (after-add o e r a.fits) ∙ a.rest)

adds_clerk : {o : OpenPage} {e : Edition} {r : Rule} {cs : List Call} → Adds o e r cs → clerk (page o) (add e r ∷ cs) ≡ clerk (page (added o r)) cs
unfolding clerk
adds_clerk {o} {e} {r} {cs} a = ap (λ (pg : Page). clerk pg cs) (after-add o e r a.fits)

-- ---- calls in another order

-- the same pages come of them, and none is refused
record Come (pg qg : Page) (cs ds : List Call) : Type 0 where
  accepted : accepts qg ds ≡ true
  alike : Pages (clerk pg cs) (clerk qg ds)

two_swapped : (g : Opening) {es us : List Entry} {ss ts : List (List Entry)} → Alike es us → Waiting ss ts → (e d : Edition) (r u : Rule) (cs ds : List Call)
    → accepts (page (with_pile (new_page g) es ss)) (add e r ∷ add d u ∷ cs) ≡ true
    → ((pg qg : Page) → Pages pg qg → accepts pg cs ≡ true → Come pg qg cs ds)
    → Come (page (with_pile (new_page g) es ss)) (page (with_pile (new_page g) us ts)) (add e r ∷ add d u ∷ cs) (add d u ∷ add e r ∷ ds)
unfolding rules_on
two_swapped g {es} {us} {ss} {ts} a p e d r u cs ds acc on =
    let o = with_pile (new_page g) es ss in
    let q = with_pile (new_page g) us ts in
    let one = adds o e r (add d u ∷ cs) acc in
    let two = adds (added o r) d u cs one.rest in
    let h = added_rule o e r one.fits in
    let k = added_rule (added o r) d u two.fits in
    let many = rules_many a in
    let room : length (rules_on us) < RULES = omega arith in
    let place : length (rules_on (a_rule u ∷ us)) < RULES =
    omega (arith, k.2, length-append (rules_on es) (r ∷ []), length-append (rules_on us) (u ∷ [])) in
    let last = on _ _ (pages g (two_rules u r a) nothing_waits) two.rest in
    let second : Adds (added q u) e r ds = record { fits = add_fits (added q u) e r h.0 h.1 place; rest = last.accepted } in
    let first : Adds q d u (add e r ∷ ds) = record { fits = add_fits q d u k.0 k.1 room; rest = adds_accepted second } in
    record {
      accepted = adds_accepted first;
      alike = subst₂ Pages (sym (adds_clerk one ∙ adds_clerk two)) (sym (adds_clerk first ∙ adds_clerk second)) last.alike;
    }

reordered : {cs ds : List Call} → Reordered cs ds → {pg qg : Page} → Pages pg qg → accepts pg cs ≡ true → Come pg qg cs ds
unfolding accepts clerk
reordered none l a = record { accepted = refl; alike = l }
reordered (same {cs} {ds} c d) {pg} {qg} l a =
    let t = both_pass (eqb (refusal pg c) 0) (accepts (after pg c) cs) a in
    let rest = reordered d (same_after l c) t.1 in
    record { accepted = ap₂ ◌&&◌ (ap (λ (n : ℕ). eqb n 0) (sym (same_refusal l c)) ∙ t.0) rest.accepted; alike = rest.alike }
reordered (swapped {cs} {ds} e d r u q) no_pages a = absurd (omega (arith, blank_add e r, eqb-true (refusal no_page (add e r)) 0 (both_pass (eqb (refusal no_page (add e r)) 0) (accepts (after no_page (add e r)) (add d u ∷ cs)) a).0))
reordered (swapped {cs} {ds} e d r u q) (pages g l p) a = two_swapped g l p e d r u cs ds a (λ pg qg k b. reordered q k b)
reordered (and_then c d) {pg} {qg} l a =
    let one = reordered c (pages_self pg) a in
    let two = reordered d l one.accepted in
    record { accepted = two.accepted; alike = pages_on one.alike two.alike }

-- ---- what calls were accepted, by the page

accepted_calls : {s t : Sheet} {cs : List Call} {pg : Page} → Reached pg → s ≡ fresh pg → (q : Sequence s cs t) → AllAccepted q → accepts pg cs ≡ true
unfolding AllAccepted accepts
accepted_calls h e done a = refl
accepted_calls {pg = pg} h e (calls c r p rest) a =
    let q = outcome_on pg e h c p in
    ap₂ ◌&&◌ (eq-eqb (refusal pg c) 0 (sym (ap Answer.number q) ∙ a.0)) (accepted_calls (after_reached h c) (ap Answer.sheet q) rest a.1)
accepted_calls {pg = pg} h e (asks {cs = cs} b b' r p rest) a =
    ap₂ ◌&&◌ (eq-eqb (refusal pg (ask (length b))) 0 (sym (asked_number pg h e p) ∙ a.0))
    (rw (after-ask pg (length b)) (accepted_calls h e rest a.1))

-- ---- what is found

same_kept : {pg qg : Page} → Pages pg qg → kept (width_of pg) (rules_of pg) ≡ kept (width_of qg) (rules_of qg)
unfolding width_of rules_of entries_of kept
same_kept no_pages = refl
same_kept (pages g d p) = ap (λ (f : ℕ → Bool). verdict_of (first f (2 ^ g.width) 0) (last f (2 ^ g.width))) (same_words g.width (rules_alike d))

same_share : {pg qg : Page} → Pages pg qg → share_of pg ≡ share_of qg
unfolding share_of count_grounds first_that_applies is_blank width_of rules_of entries_of how_many
same_share no_pages = refl
same_share (pages g d p) = ap (λ (f : ℕ → Bool). shares 0 (count f (2 ^ g.width) 0)) (same_words g.width (rules_alike d))

found_same : {pg qg : Page} {s t : Sheet} → Pages pg qg → Reached pg → Reached qg → s ≡ fresh pg → t ≡ fresh qg → SameFound s t
found_same {pg} {qg} l h k e d =
    record {
      number = λ a c same. asked_number pg h e a ∙ same_refusal l (ask _) ∙ ap (λ (m : ℕ). refusal qg (ask m)) same ∙ sym (asked_number qg k d c);
      kept = λ a c z y. asked_kept pg h e a z ∙ same_kept l ∙ sym (asked_kept qg k d c y);
      count = λ a c. a.on_page pg h e ∙ same_share l ∙ sym (c.on_page qg k d);
    }

-- ---- the auditors' sentence

-- of any calls, with marks and steps back and forward among them: the rules that are added one after another may come in any order
pub order_between_calls : {cs ds : List Call} → Reordered cs ds → {s t : Sheet} (p : Sequence blank cs s) (q : Sequence blank ds t) → AllAccepted p
    → AllAccepted q × SameFound s t
unfolding fresh
order_between_calls {cs} {ds} d p q a =
    let l = reordered d no_pages (accepted_calls start refl p a) in
    (sequence_accepted start refl l.accepted q, found_same l.alike (clerk_reached start cs) (clerk_reached start ds) (as_fresh p) (as_fresh q))

all_adds : (e : Edition) {rs us : List Rule} → Permᴰ rs us → Reordered (map (add e) rs) (map (add e) us)
all_adds e Permᴰ.nil = none
all_adds e (Permᴰ.cons {a} {b} {l₁} {l₂} p d) = subst (λ (u : Rule). Reordered (add e a ∷ map (add e) l₁) (add e u ∷ map (add e) l₂)) p (same (add e a) (all_adds e d))
all_adds e (Permᴰ.swap {a} {b} {a'} {b'} {l} p q) =
    subst₂ (λ (u v : Rule). Reordered (add e a ∷ add e b ∷ map (add e) l) (add e u ∷ add e v ∷ map (add e) l)) q p (swapped e e a b (self (map (add e) l)))
  where
    self : (cs : List Call) → Reordered cs cs
    self [] = none
    self (c ∷ cs) = same c (self cs)
all_adds e (Permᴰ.trans c d) = and_then (all_adds e c) (all_adds e d)

-- of a fresh sheet and the same rules in another order
pub any_order : (g : Opening) {rs us : List Rule} → Permᴰ rs us → {s t : Sheet} (p : Sequence blank (opened_and_given g rs) s) (q : Sequence blank (opened_and_given g us) t)
    → AllAccepted p → AllAccepted q × SameFound s t
unfolding opened_and_given
any_order g d p q a = order_between_calls (same (open_at g) (all_adds g.edition d)) p q a
