-- What is answered of the words that fit a list: where the list is refused the number and the place are its own, else they are listed on the
-- sheet of the page that it makes. Assumes nothing.
use mathlib.Core.Path.{◌≡◌, refl, ap, ap₂}
use mathlib.Core.List.{List, [], ◌∷◌}
use Prim.Native.Nat.{ℕ}
use borrow.Author.Tests.{eq-eqb, ne_eqb}
use lib.ListN.{length}
use Rattle.page.specs.Reached.{Reached}
use Rattle.counting.specs.fitting.Words.{at_start}
use Rattle.listing.specs.declared.Listing.{Listing}
use Rattle.listing.specs.Listed.{Listed}
use Rattle.sheet.specs.declared.Sheet.{Sheet}
use Rattle.outside.specs.declared.making.Refused.{Refused}
use Rattle.outside.specs.making.Made.{Making}
use Rattle.outside.proofs.list_made.Parts.{Made, Stopped}
use Rattle.outside.specs.on_listings.Listings.{ListedIn, list_in, list_number_in}

module _ (m : Making) where
  pub refused_list : {x : Refused} → Stopped m x → (start : ℕ) (b : List ℕ) → ListedIn m start b b (0 ∷ x.place ∷ []) x.number
  unfolding list_number_in list_in
  refused_list {x} h start b = record { number = told; answer = none_written; words = untouched }
    where
      told : x.number ≡ list_number_in m start
      told = rw (ne_eqb m.number 0 h.refused) h.number

      no_word : list_in m start (length b) ≡ []
      no_word = rw (ne_eqb m.number 0 h.refused)

      none_written : 0 ∷ x.place ∷ [] ≡ length (list_in m start (length b)) ∷ m.place ∷ []
      none_written = rw no_word (ap (λ (i : ℕ). 0 ∷ i ∷ []) h.place)

      untouched : b ≡ at_start (list_in m start (length b)) b
      untouched = rw no_word refl

  pub listed : {t : Sheet} → Made m t → Reached m.on → {n : ℕ} → n ≡ m.place → (start : ℕ) (b b' : List ℕ) (l : Listing) → Listed t start b b' l
      → ListedIn m start b b' (l.written ∷ n ∷ []) l.number
  unfolding list_number_in list_in
  listed made h place start b b' l p =
      let q = p.on_page m.on h made.sheet in
      record {
        number = rw (eq-eqb m.number 0 made.number) (ap (λ (x : Listing). x.number) q.0);
        answer = rw (eq-eqb m.number 0 made.number) (ap₂ (λ (x : Listing) (i : ℕ). x.written ∷ i ∷ []) q.0 place);
        words = rw (eq-eqb m.number 0 made.number) q.1;
      }
