-- The ways out of asking why: refused before the table, refused for its word, and answered. Assumes nothing.
use mathlib.Core.Path.{◌≡◌, refl, sym, ap, ap₂, ◌∙◌, subst}
use mathlib.Core.Bool.{Bool, true, false≢true}
use mathlib.Core.List.{List, []}
use mathlib.Core.Logic.{◌↔◌}
use Prim.Native.Nat.{ℕ, ◌≤◌, ◌<◌}
use native.Mathlib.Omega.{arith}
use borrow.Author.Tests.{le-ltb, lt-ltb, ne_eqb}
use lib.ListN.{length, take}
use Rattle.word.specs.Word.{top}
use Rattle.rule.specs.declared.Rule.{Rule}
use Rattle.page.specs.Calls.{first_that_applies, is_blank, rules_of}
use Rattle.page.specs.Page.{OpenPage, Page, entries_of, no_page, page, rules_on, width_of}
use Rattle.page.specs.Reached.{Reached, start}
use Rattle.sheet.specs.declared.Sheet.{Sheet}
use Rattle.sheet.specs.Record.{fresh}
use Rattle.sheet.specs.Statements.{IsSheet}
use Rattle.sheet.specs.route.Stands.{Standing, Stands, blank_sheet, no_sheet, on_page}
use Rattle.sheet.proofs.OnePage.{one_page}
use Rattle.sheet.proofs.Stands.{has_page, has_width, is_blank_lem, known}
use Rattle.counting.specs.fitting.Words.{at_start}
use Rattle.listing.specs.declared.Listing.{Listing}
use Rattle.listing.specs.Listed.{listings}
use Rattle.listing.specs.blame_refusal.route.Seen.{WhySeen, blank, high_word, not_sheet, own_word, short_room}
use Rattle.listing.specs.failed_rules.Failed.{failed}
use Rattle.listing.specs.blaming.Blamed.{Blamed, failed_on, why_grounds, why_number}

-- what holds of the one page is all that is asked
abbrev Says : Page → ℕ → List ℕ → List ℕ → Listing → Type 0
Says pg x b b' r =
    (r ≡ listings (why_number pg x (length b)) (length (failed_on pg x (length b)))) × (b' ≡ at_start (failed_on pg x (length b)) b)

blamed_on : (pg : Page) → Reached pg → {s : Sheet} → s ≡ fresh pg → {x : ℕ} {b b' : List ℕ} {r : Listing} → Says pg x b b' r → Blamed s x b b' r
blamed_on pg h {s} e {x} {b} {b'} {r} q =
    record {
      no_sheet = λ n. absurd (n (record { on = pg; reached = h; gives = e }));
      on_page = λ qg k d. subst (λ (t : Page). Says t x b b' r) (one_page h k (sym e ∙ d)) q;
    }

-- what an open page says
module _ (o : OpenPage) (x m : ℕ) where
  abbrev w : ℕ
  w = o.opening.width

  abbrev rs : List Rule
  rs = rules_on o.entries

  high_number : top w < x → why_number (page o) x m ≡ 5
  unfolding why_number why_grounds first_that_applies is_blank width_of
  high_number h = rw (lt-ltb (top w) x h)

  short_number : x ≤ top w → m < length rs → why_number (page o) x m ≡ 9
  unfolding why_number why_grounds first_that_applies is_blank width_of rules_of entries_of
  short_number h k = rw (le-ltb (top w) x h, lt-ltb m (length rs) k)

  own_number : x ≤ top w → length rs ≤ m → why_number (page o) x m ≡ 0
  unfolding why_number why_grounds first_that_applies is_blank width_of rules_of entries_of
  own_number h k = rw (le-ltb (top w) x h, le-ltb m (length rs) k)

  none_failed : {k : ℕ} → why_number (page o) x m ≡ k → (k ≡ 0 → ⊥) → failed_on (page o) x m ≡ []
  unfolding failed_on
  none_failed e n = rw (ne_eqb (why_number (page o) x m) 0 (λ z. n (sym e ∙ z)))

  own_failed : x ≤ top w → length rs ≤ m → failed_on (page o) x m ≡ failed w x 0 rs
  unfolding failed_on width_of rules_of entries_of
  own_failed h k = rw (own_number h k)

-- refused before the table
refused_before : {s : Sheet} {n : ℕ} → Stands s n → (n ≡ 0 → ⊥) → (x : ℕ) (b : List ℕ) → Blamed s x b b (listings n 0)
unfolding why_number why_grounds failed_on first_that_applies is_blank
refused_before (no_sheet i) z x b =
    record { no_sheet = λ n. (refl, refl); on_page = λ pg h e. absurd (i (record { on = pg; reached = h; gives = e })) }
refused_before (blank_sheet e) z x b = blamed_on no_page start e (refl, refl)
refused_before (on_page q) z x b = absurd (z refl)

module _ {s : Sheet} (p : Standing s) (x : ℕ) (b : List ℕ) where
  refused : {k : ℕ} → why_number (page p.on) x (length b) ≡ k → (k ≡ 0 → ⊥) → Blamed s x b b (listings k 0)
  refused e n =
      let none = none_failed p.on x (length b) e n in
      blamed_on (page p.on) p.reached p.gives
      (sym (ap₂ (λ (n : ℕ) (xs : List ℕ). listings n (length xs)) e none), sym (ap (λ (xs : List ℕ). at_start xs b) none))

  pub own_why : x ≤ top s.width → s.count ≤ length b → {n : ℕ} {b' : List ℕ} → n ≡ length (failed s.width x 0 (take s.count s.rules))
      → b' ≡ at_start (failed s.width x 0 (take s.count s.rules)) b → Blamed s x b b' (listings 0 n)
  own_why l k c d =
      let g = known p in
      let low = subst (λ (w : ℕ). x ≤ top w) g.width l in
      let room : length (rules_on p.on.entries) ≤ length b = omega (arith, g.count) in
      let numbers = (λ i. failed (g.width i) x 0 (g.rules i)) ∙ sym (own_failed p.on x (length b) low room) in
      blamed_on (page p.on) p.reached p.gives (
        ap (listings 0) (c ∙ ap length numbers)
            ∙ ap (λ (n : ℕ). listings n (length (failed_on (page p.on) x (length b)))) (sym (own_number p.on x (length b) low room)),
        d ∙ ap (λ (xs : List ℕ). at_start xs b) numbers,
      )

-- what is looked at before any rule, of a record that is a sheet where the test says so
module _ {s : Sheet} {t : Bool} (tells : t ≡ true ↔ IsSheet s) where
  pub is_standing : t ≡ true → (s.width ≡ 0 → ⊥) → Standing s
  is_standing e z = has_page (has_width (tells.0 e) z) refl

  -- a refusal, whatever its number
  pub refused_why : {x n : ℕ} (b : List ℕ) → WhySeen t s.width s.count x (length b) n → (n ≡ 0 → ⊥) → Blamed s x b b (listings n 0)
  refused_why b (not_sheet e) z = refused_before (no_sheet (λ i. false≢true (sym e ∙ tells.1 i))) z _ b
  refused_why b (blank e w) z = refused_before (is_blank_lem (tells.0 e) w) z _ b
  refused_why {x} b (high_word e w l) z =
      let p = is_standing e w in
      refused p x b (high_number p.on x (length b) (subst (λ (w : ℕ). top w < x) (known p).width l)) z
  refused_why {x} b (short_room e w l k) z =
      let p = is_standing e w in
      refused p x b (short_number p.on x (length b) (subst (λ (w : ℕ). x ≤ top w) (known p).width l) (omega (arith, (known p).count))) z
  refused_why b (own_word e w l k) z = absurd (z refl)
