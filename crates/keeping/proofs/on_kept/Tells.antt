-- What is told of the record that numbers are read as is told of the numbers: a sheet's numbers are read as this sheet, and other numbers as a
-- record that is none. Assumes nothing.
use mathlib.Core.Path.{◌≡◌, ap, ◌∙◌, subst}
use mathlib.Core.List.{List, [], ◌∷◌}
use Prim.Native.Nat.{ℕ}
use lib.ListN.{length}
use Rattle.page.specs.Page.{Page}
use Rattle.page.specs.Reached.{Reached}
use Rattle.sheet.specs.declared.slate_ask.Reply.{Reply}
use Rattle.sheet.specs.declared.Sheet.{Sheet}
use Rattle.sheet.specs.Record.{fresh}
use Rattle.sheet.specs.Statements.{Asked as AskedOf, IsSheet}
use Rattle.counting.specs.declared.Share.{Share}
use Rattle.counting.specs.Counted.{Counted as CountedOf}
use Rattle.listing.specs.declared.Listing.{Listing}
use Rattle.listing.specs.Listed.{Listed as ListedOf}
use Rattle.keeping.specs.kept_numbers.Numbers.{IsKept, NUMBERS, numbers_of}
use Rattle.keeping.specs.kept_numbers.route.Reading.{sheet_in}
use Rattle.keeping.proofs.kept_numbers.Kept.{kept_read, sheet_kept}
use Rattle.keeping.specs.on_kept.Told.{Asked, Counted, Listed, Replied, Shared}

replied : {p q : Reply} → p ≡ q → Replied q p.number (p.kept.verdict ∷ p.kept.smallest ∷ p.kept.largest ∷ p.links ∷ [])
replied e = (
  ap (λ (x : Reply). x.number) e,
  ap (λ (x : Reply). x.kept.verdict ∷ x.kept.smallest ∷ x.kept.largest ∷ x.links ∷ []) e,
)

shared : {s t : Share} → s ≡ t → Shared t s.number (s.quotient ∷ s.remainder ∷ [])
shared e = (ap (λ (x : Share). x.number) e, ap (λ (x : Share). x.quotient ∷ x.remainder ∷ []) e)

module _ (ns : List ℕ) (many : length ns ≡ NUMBERS) (s : Sheet) (e : s ≡ sheet_in ns) where
  none : (IsKept ns → ⊥) → IsSheet s → ⊥
  none n h = n (sheet_kept ns many (subst IsSheet e h))

  own : {pg : Page} → Reached pg → ns ≡ numbers_of (fresh pg) → s ≡ fresh pg
  own h k = e ∙ kept_read h k

  pub asks : {b b' : List ℕ} (p : Reply) → AskedOf s b b' p
      → Asked ns b b' (p.kept.verdict ∷ p.kept.smallest ∷ p.kept.largest ∷ p.links ∷ []) p.number
  asks p a =
      record {
        spoiled = λ n. let f = a.no_sheet (none n) in (replied f.0, f.1);
        on_page = λ pg h k. let f = a.on_page pg h (own h k) in (replied f.0, f.1);
      }

  pub counts : (p : Share) → CountedOf s p → Counted ns (p.quotient ∷ p.remainder ∷ []) p.number
  counts p a =
      record { spoiled = λ n. shared (a.no_sheet (none n)); on_page = λ pg h k. shared (a.on_page pg h (own h k)) }

  pub lists : {start : ℕ} {b b' : List ℕ} (l : Listing) → ListedOf s start b b' l → Listed ns start b b' l.written l.number
  lists l a =
      record {
        spoiled = λ n. let f = a.no_sheet (none n) in (ap (λ (x : Listing). x.number) f.0, ap (λ (x : Listing). x.written) f.0, f.1);
        on_page = λ pg h k. let f = a.on_page pg h (own h k) in (ap (λ (x : Listing). x.number) f.0, ap (λ (x : Listing). x.written) f.0, f.1);
      }
