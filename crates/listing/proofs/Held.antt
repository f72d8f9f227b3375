-- The ways out of a listing: refused before the table, refused for its start, and listed. Assumes nothing.
use mathlib.Core.Path.{◌≡◌, refl, sym, ap, ap₂, ◌∙◌, subst}
use mathlib.Core.List.{List, []}
use Prim.Native.Nat.{ℕ, suc, ◌-◌, ◌^◌, ◌≤◌, ◌<◌}
use native.Mathlib.Omega.{arith}
use lib.ListN.{length, take}
use Rattle.word.specs.Search.{passing}
use Rattle.word.specs.Word.{top}
use Rattle.word.proofs.Widths.{top-suc}
use Rattle.rule.specs.Meaning.{fits}
use Rattle.page.specs.Calls.{rules_of}
use Rattle.page.specs.Page.{OpenPage, Page, entries_of, no_page, page, rules_on, width_of}
use Rattle.page.specs.Reached.{Reached, start}
use Rattle.sheet.specs.declared.Sheet.{Sheet}
use Rattle.sheet.specs.Record.{fresh}
use Rattle.sheet.specs.route.Stands.{Stands, blank_sheet, no_sheet, on_page}
use Rattle.sheet.proofs.OnePage.{one_page}
use Rattle.sheet.specs.declared.laid_force.Found.{Found}
use Rattle.sheet.specs.laid_force.route.Found.{FoundIn}
use Rattle.sheet.proofs.laid_force.Force.{page_width, passes_so, standing}
use Rattle.counting.specs.fitting.Words.{at_start, fitting_from, words_from}
use Rattle.counting.proofs.fitting.Passing.{passing_same}
use Rattle.listing.specs.list_refusal.Grounds.{list_number}
use Rattle.listing.specs.list_refusal.route.Seen.{StartSeen, before_table, high_start, own_start}
use Rattle.listing.proofs.list_refusal.Numbers.{blank_number, high_number, own_number}
use Rattle.listing.specs.filling.route.Filled.{words_in}
use Rattle.listing.specs.declared.Listing.{Listing}
use Rattle.listing.specs.Listed.{Listed, list_on, listings}

-- what holds of the one page is all that is asked
abbrev Says : Page → ℕ → List ℕ → List ℕ → Listing → Type 0
Says pg p b b' r = (r ≡ listings (list_number pg p) (length (list_on pg p (length b)))) × (b' ≡ at_start (list_on pg p (length b)) b)

pub listed_on : (pg : Page) → Reached pg → {s : Sheet} → s ≡ fresh pg → {p : ℕ} {b b' : List ℕ} {r : Listing} → Says pg p b b' r → Listed s p b b' r
listed_on pg h {s} e {p} {b} {b'} {r} q =
    record {
      no_sheet = λ n. absurd (n (record { on = pg; reached = h; gives = e }));
      on_page = λ qg k d. subst (λ (t : Page). Says t p b b' r) (one_page h k (sym e ∙ d)) q;
    }

module _ (o : OpenPage) (p : ℕ) where
  abbrev w : ℕ
  w = o.opening.width

  high_words : (m : ℕ) → top w < p → list_on (page o) p m ≡ []
  unfolding list_on
  high_words m h = rw (high_number o p h)

  own_words : (m : ℕ) → p ≤ top w → list_on (page o) p m ≡ words_from w (rules_on o.entries) p m
  unfolding list_on width_of rules_of entries_of
  own_words m h = rw (own_number o p h)

-- refused before the table
refused_before : {s : Sheet} {n : ℕ} → Stands s n → (n ≡ 0 → ⊥) → (p : ℕ) (b : List ℕ) → Listed s p b b (listings n 0)
unfolding list_on
refused_before (no_sheet i) z p b =
    record { no_sheet = λ n. (refl, refl); on_page = λ pg h e. absurd (i (record { on = pg; reached = h; gives = e })) }
refused_before (blank_sheet e) z p b = listed_on no_page start e (rw (blank_number p) (refl, refl))
refused_before (on_page q) z p b = absurd (z refl)

module _ {s : Sheet} {f : Found} {rows : List (List ℕ)} (found : FoundIn s f rows) (p : ℕ) (b : List ℕ) where
  abbrev wide : ℕ
  wide = f.force.width.bits

  -- a refusal, whatever its number
  pub refused_list : {n : ℕ} → StartSeen f.number wide p n → (n ≡ 0 → ⊥) → Listed s p b b (listings n 0)
  refused_list (before_table d) z = refused_before found.stands d p b
  refused_list (high_start e l) z =
      let q = standing found e in
      let high = subst (λ (w : ℕ). top w < p) (page_width found e) l in
      let none = high_words q.on p (length b) high in
      listed_on (page q.on) q.reached q.gives
      (sym (ap₂ (λ (n : ℕ) (xs : List ℕ). listings n (length xs)) (high_number q.on p high) none), sym (ap (λ (xs : List ℕ). at_start xs b) none))
  refused_list (own_start e l) z = absurd (z refl)

  module _ (e : f.number ≡ 0) (l : p ≤ top wide) where
    abbrev on : OpenPage
    on = (standing found e).on

    -- the words that pass are those that fit
    all : words_in rows f.force p (length b) ≡ list_on (page on) p (length b)
    unfolding words_from fitting_from
    all =
        let fit = fits on.opening.width (rules_on on.entries) in
        ap (take (length b))
        (passing_same _ fit (suc (top wide) - p) p (λ y i j. passes_so found e y (omega arith))
        ∙ ap (λ (k : ℕ). passing fit (k - p) p) (top-suc wide ∙ ap (λ (v : ℕ). 2 ^ v) (page_width found e)))
        ∙ sym (own_words on p (length b) (subst (λ (w : ℕ). p ≤ top w) (page_width found e) l))

    pub own_list : {n : ℕ} {b' : List ℕ} → n ≡ length (words_in rows f.force p (length b)) → b' ≡ at_start (words_in rows f.force p (length b)) b
        → Listed s p b b' (listings 0 n)
    own_list c d =
        let q = standing found e in
        let low = subst (λ (w : ℕ). p ≤ top w) (page_width found e) l in
        listed_on (page on) q.reached q.gives (
          ap (listings 0) (c ∙ ap length all) ∙ ap (λ (n : ℕ). listings n (length (list_on (page on) p (length b)))) (sym (own_number on p low)),
          d ∙ ap (λ (xs : List ℕ). at_start xs b) all,
        )
