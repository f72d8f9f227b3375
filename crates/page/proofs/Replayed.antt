-- Every lawful page is reached: replayed, such a page and its pile accept each of their calls, and are what the clerk then has. For what
-- stands and what waits is written entry by entry, and each step back then strikes the stretch that waits on top. And what is taken back
-- and brought back is the very page from before. Assumes nothing.
use mathlib.Core.Path.{◌≡◌, refl, sym, ap, ap₂, ◌∙◌, subst}
use mathlib.Core.Bool.{true, ◌&&◌}
use mathlib.Core.List.{List, [], ◌∷◌, ◌++◌, append_assoc, append-nil}
use Prim.Native.Nat.{ℕ, zero, suc, ◌≤◌}
use native.Mathlib.Decide.{ℕ_discrete}
use native.Mathlib.Omega.{arith}
use borrow.Author.Tests.{eq-eqb}
use lib.Dec.{eqb}
use lib.ListN.{length, replicate}
use Rattle.word.specs.declared.Edition.{Edition}
use Rattle.word.proofs.Editions.{same_self}
use Rattle.word.proofs.Tests.{both_pass}
use Rattle.page.specs.Calls.{Call, accepts, add, after, back, changed, clerk, enters, forward, gives, gives_each, mark, marks_of, open_at, refusal, replay, written}
use Rattle.page.specs.Page.{Entry, OpenPage, Page, a_mark, a_rule, entries_of, laid_aside, marks_on, no_page, page, restored, taken_up, with_entries, with_pile}
use Rattle.page.specs.Reached.{Reached, start, step}
use Rattle.page.proofs.Lawful.{LawfulPage, Lawfully, under_mark, under_rule}
use Rattle.page.proofs.Refusals.{add_fits, after_accepted, after_refused, back_fits, forward_fits, mark_fits, open_fits}
use Rattle.page.proofs.Stretches.{Stretch, Stretches, stretch_again, stretch_marked, stretch-struck, struck_again}
use Rattle.page.proofs.Struck.{marks_left_length}

-- ---- calls none of which is refused, and the page that they come to

pub record Leads (pg : Page) (cs : List Call) (qg : Page) : Type 0 where
  pub accepted : accepts pg cs ≡ true
  pub comes_to : clerk pg cs ≡ qg

pub leads_none : (pg : Page) → Leads pg [] pg
unfolding accepts clerk
leads_none pg = record { accepted = refl; comes_to = refl }

pub leads_one : (pg : Page) (c : Call) {qg : Page} → refusal pg c ≡ 0 → written pg c ≡ qg → Leads pg (c ∷ []) qg
unfolding accepts clerk
leads_one pg c e d = record { accepted = rw (eq-eqb (refusal pg c) 0 e); comes_to = after_accepted pg c e ∙ d }

pub leads_on : {pg qg rg : Page} {cs ds : List Call} → Leads pg cs qg → Leads qg ds rg → Leads pg (cs ++ ds) rg
unfolding accepts clerk
leads_on {rg = rg} {cs = []} {ds = ds} l k = subst (λ (p : Page). Leads p ds rg) (sym l.comes_to) k
leads_on {pg = pg} {cs = c ∷ cs} l k =
    let t = both_pass (eqb (refusal pg c) 0) (accepts (after pg c) cs) l.accepted in
    let rest = leads_on {pg = after pg c} {cs = cs} (record { accepted = t.1; comes_to = l.comes_to }) k in
    record { accepted = ap₂ ◌&&◌ t.0 rest.accepted; comes_to = rest.comes_to }

-- the same call again and again: the last one may stand first
module _ (c : Call) where
  last_first : (n : ℕ) → replicate n c ++ c ∷ [] ≡ replicate (suc n) c
  last_first zero = refl
  last_first (suc n) = ap (λ (cs : List Call). c ∷ cs) (last_first n)

-- ---- what a page and its pile replay

module _ (d : Edition) where
  gives_more : (s es : List Entry) → gives d (s ++ es) ≡ gives d es ++ gives d s
  unfolding gives
  gives_more [] es = sym (append-nil (gives d es))
  gives_more (e ∷ s) es =
      ap (λ (cs : List Call). cs ++ enters d e ∷ []) (gives_more s es) ∙ append_assoc (gives d es) (gives d s) (enters d e ∷ [])

  gives_all : (ss : List (List Entry)) (es : List Entry) (cs : List Call) → gives d es ++ (gives_each d ss ++ cs) ≡ gives d (restored ss es) ++ cs
  unfolding gives_each restored
  gives_all [] es cs = refl
  gives_all (s ∷ ss) es cs =
      ap (λ (ds : List Call). gives d es ++ ds) (append_assoc (gives d s) (gives_each d ss) cs)
      ∙ sym (append_assoc (gives d es) (gives d s) (gives_each d ss ++ cs))
      ∙ ap (λ (ds : List Call). ds ++ (gives_each d ss ++ cs)) (sym (gives_more s es))
      ∙ gives_all ss (s ++ es) cs

module _ (o : OpenPage) where
  entered : (es : List Entry) → Lawfully o es → Leads (page (with_entries o [])) (gives o.opening.edition es) (page (with_entries o es))
  unfolding gives enters written changed
  entered [] l = leads_none (page (with_entries o []))
  entered (a_rule r ∷ es) l =
      let u = under_rule o es r l in
      let d : Edition = o.opening.edition in
      leads_on (entered es u.0) (leads_one _ (add d r) (add_fits (with_entries o es) d r (same_self d) u.1 u.2) refl)
  entered (a_mark ∷ es) l =
      let u = under_mark o es l in leads_on (entered es u.0) (leads_one _ mark (mark_fits (with_entries o es) u.1) refl)

  -- back right after forward gives the very page
  back_again : (s es : List Entry) (ss : List (List Entry)) → Stretch s → laid_aside (with_pile o (s ++ es) ss) ≡ with_pile o es (s ∷ ss)
  unfolding laid_aside
  back_again s es ss h = ap₂ (λ (fs t : List Entry). with_pile o fs (t ∷ ss)) (struck_again es h) (stretch_again es h)

  taken_back : (ss : List (List Entry)) (es : List Entry) → Stretches ss
      → Leads (page (with_entries o (restored ss es))) (replicate (length ss) back) (page (with_pile o es ss))
  unfolding restored written changed
  taken_back [] es h = leads_none (page (with_entries o es))
  taken_back (s ∷ ss) es h =
      let p : OpenPage = with_pile o (s ++ es) ss in
      rw (← last_first back (length ss))
      (leads_on (taken_back ss (s ++ es) h.1) (leads_one (page p) back (back_fits p (stretch_marked es h.0)) (ap page (back_again s es ss h.0))))

abbrev pub Replays : Page → Type 0
Replays pg = Leads no_page (replay pg) pg

pub lawful_replays : (pg : Page) → LawfulPage pg → Replays pg
unfolding replay written
lawful_replays no_page l = leads_none no_page
lawful_replays (page o) l =
    let backs : List Call = replicate (length o.pile) back in
    let all : List Entry = restored o.pile o.entries in
    let opens = open_fits no_page o.opening l.restores.low l.restores.high in
    rw (gives_all o.opening.edition o.pile o.entries backs)
    (leads_on (leads_one no_page (open_at o.opening) opens refl)
    (leads_on (entered o all l.restores) (taken_back o o.pile o.entries l.stretches)))

pub after_reached : {pg : Page} → Reached pg → (c : Call) → Reached (after pg c)
after_reached {pg} h c = go (ℕ_discrete (refusal pg c) 0)
  where
    go : Dec (refusal pg c ≡ 0) → Reached (after pg c)
    go (yes e) = rw (after_accepted pg c e) (step h c e)
    go (no n) = rw (after_refused pg c n) h

pub clerk_reached : {pg : Page} → Reached pg → (cs : List Call) → Reached (clerk pg cs)
unfolding clerk
clerk_reached h [] = h
clerk_reached {pg = pg} h (c ∷ cs) = clerk_reached {pg = after pg c} (after_reached h c) cs

pub lawful_reached : (pg : Page) → LawfulPage pg → Reached pg
lawful_reached pg l = subst Reached (lawful_replays pg l).comes_to (clerk_reached start (replay pg))

-- ---- back and forward again

-- forward right after back gives the very page
pub forward_again : (o : OpenPage) → taken_up (laid_aside o).pile (laid_aside o) ≡ o
unfolding laid_aside taken_up
forward_again o = ap (λ (es : List Entry). with_pile o es o.pile) (stretch-struck o.entries)

-- and so do n steps back and then n steps forward, where so many marks are in force
pub back_and_forward : (n : ℕ) (pg : Page) → n ≤ length (marks_of pg) → Leads pg (replicate n back ++ replicate n forward) pg
unfolding written changed laid_aside marks_of entries_of marks_on
back_and_forward zero pg h = leads_none pg
back_and_forward (suc n) no_page h = absurd (omega arith)
back_and_forward (suc n) (page o) h =
    let p : OpenPage = laid_aside o in
    let fewer = back_and_forward n (page p) (omega (arith, marks_left_length o.entries (omega arith))) in
    let again = leads_on fewer (leads_one (page p) forward (forward_fits p (omega arith)) (ap page (forward_again o))) in
    rw (← last_first forward n, ← append_assoc (replicate n back) (replicate n forward) (forward ∷ []))
    (leads_on (leads_one (page o) back (back_fits o (omega arith)) refl) again)
