-- What is answered of how many words fit a list: where the list is refused the number and the place are its own, else they are counted on the
-- sheet of the page that it makes. Assumes nothing.
use mathlib.Core.Path.{◌≡◌, ap, ap₂}
use mathlib.Core.List.{[], ◌∷◌}
use Prim.Native.Nat.{ℕ}
use borrow.Author.Tests.{eq-eqb, ne_eqb}
use Rattle.page.specs.Reached.{Reached}
use Rattle.counting.specs.declared.Share.{Share}
use Rattle.counting.specs.Counted.{Counted, share_of}
use Rattle.sheet.specs.declared.Sheet.{Sheet}
use Rattle.outside.specs.declared.making.Refused.{Refused}
use Rattle.outside.specs.making.Made.{Making}
use Rattle.outside.proofs.list_made.Parts.{Made, Stopped}
use Rattle.outside.specs.on_counts.Counts.{count_numbers, share_in}

module _ (m : Making) where
  pub refused_count : {x : Refused} → Stopped m x → (x.number ≡ (share_in m).number) × (0 ∷ 0 ∷ x.place ∷ [] ≡ count_numbers m)
  unfolding count_numbers share_in
  refused_count h = (rw (ne_eqb m.number 0 h.refused) h.number, rw (ne_eqb m.number 0 h.refused) (ap (λ (i : ℕ). 0 ∷ 0 ∷ i ∷ []) h.place))

  pub counted : {t : Sheet} → Made m t → Reached m.on → {n : ℕ} → n ≡ m.place → (s : Share) → Counted t s
      → (s.number ≡ (share_in m).number) × (s.quotient ∷ s.remainder ∷ n ∷ [] ≡ count_numbers m)
  unfolding count_numbers share_in
  counted made h place s p =
      let q : s ≡ share_of m.on = p.on_page m.on h made.sheet in (
        rw (eq-eqb m.number 0 made.number) (ap (λ (x : Share). x.number) q),
        rw (eq-eqb m.number 0 made.number) (ap₂ (λ (x : Share) (i : ℕ). x.quotient ∷ x.remainder ∷ i ∷ []) q place),
      )
