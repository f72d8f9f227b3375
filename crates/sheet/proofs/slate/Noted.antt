-- Notes in rows: a note that is written is read again, with the row's rule and band as they were; and what is noted stays so where the
-- first rows stay. Assumes nothing.
use mathlib.Core.Path.{◌≡◌, refl, sym, ap, ap₂, ◌∙◌, subst}
use mathlib.Core.Bool.{true, false}
use mathlib.Core.List.{List, [], ◌∷◌}
use Prim.Native.Nat.{ℕ, zero, suc, ◌≤◌, ◌<◌}
use native.Mathlib.Decide.{ℕ_discrete}
use native.Mathlib.Omega.{arith}
use lib.ListN.{get_or, length, length-set, set, take}
use lib.Seq.{get_or-set_other, get_or-set_same, get_or-take, take-take}
use Rattle.rule.specs.declared.Rule.{Rule}
use Rattle.rule.specs.declared.band.Band.{Band}
use Rattle.rule.specs.declared.bits.Fixed.{Fixed}
use Rattle.rule.specs.declared.bits.Fixed.TheVariants.{Bits, Clash}
use Rattle.rule.specs.bits.route.Fixed.{fixed_bits, fixed_from}
use Rattle.search.specs.rows.route.Rows.{band_in, bands_in, drawn, drawn_row, row_of, rule_in, rules_in}
use Rattle.search.specs.declared.verdict.Kept.{Kept}
use Rattle.search.specs.verdict.Kept.{kept}
use Rattle.search.proofs.verdict.NoRules.{kept_none}
use Rattle.rule.proofs.accept.Choices.{never}
use Rattle.search.specs.declared.noting.Note.{Note}
use Rattle.search.specs.noting.route.Note.{fixed_in, fixed_out, note_at, note_in, noting, with_note}
use Rattle.sheet.specs.slate.route.Notes.{Noted, Notes}
use Rattle.sheet.proofs.slate.Cleared.{take-map}

-- ---- a note that is written

abbrev pub note_of : Kept → Fixed → Note
note_of k f = record { known = true; kept = k; fixed = f }

module _ (k : Kept) (f : Fixed) where
  read_again : (row : List ℕ) → note_in (with_note k f row) ≡ note_of k f
  unfolding note_in with_note fixed_in fixed_out
  read_again row = go f
    where
      go : (g : Fixed) → note_in (with_note k g row) ≡ note_of k g
      go (Bits m v) = refl
      go Clash = refl

  pub rules_stay : (rows : List (List ℕ)) (n : ℕ) → rules_in (noting k f rows n) ≡ rules_in rows
  unfolding noting rule_in with_note
  rules_stay rows zero = refl
  rules_stay [] (suc i) = refl
  rules_stay (row ∷ rows) (suc zero) = refl
  rules_stay (row ∷ rows) (suc (suc i)) = ap (λ (rs : List Rule). rule_in row ∷ rs) (rules_stay rows (suc i))

  pub bands_stay : (rows : List (List ℕ)) (n : ℕ) → bands_in (noting k f rows n) ≡ bands_in rows
  unfolding noting band_in with_note
  bands_stay rows zero = refl
  bands_stay [] (suc i) = refl
  bands_stay (row ∷ rows) (suc zero) = refl
  bands_stay (row ∷ rows) (suc (suc i)) = ap (λ (bs : List Band). band_in row ∷ bs) (bands_stay rows (suc i))

  pub rows_stay : (rows : List (List ℕ)) (n : ℕ) → length (noting k f rows n) ≡ length rows
  unfolding noting
  rows_stay rows zero = refl
  rows_stay rows (suc i) = length-set rows i (with_note k f (get_or rows i []))

-- ---- what is noted of no rules

none_noted : (w : ℕ) → 1 ≤ w → (rows : List (List ℕ)) (rs : List Rule) → Noted w 0 rs (note_at w rows 0)
unfolding note_at fixed_bits fixed_from
none_noted w width rows rs = record { keeps_so = kept_none w width; fixes_so = refl }

module _ (w : ℕ) (width : 1 ≤ w) where
  -- it is enough to look at the rows
  from_rows : (given : ℕ) (rows : List (List ℕ)) → ((i : ℕ) → i < given → (note_in (get_or rows i [])).known ≡ true → Noted w (suc i) (rules_in rows) (note_in (get_or rows i []))) → Notes w given rows
  unfolding note_at
  from_rows given rows each = record { true_so = go }
    where
      go : (n : ℕ) → n ≤ given → (note_at w rows n).known ≡ true → Noted w n (rules_in rows) (note_at w rows n)
      go zero h e = none_noted w width rows (rules_in rows)
      go (suc i) h e = each i (omega arith) e

  to_rows : (given : ℕ) (rows : List (List ℕ)) → Notes w given rows → (i : ℕ) → i < given → (note_in (get_or rows i [])).known ≡ true
      → Noted w (suc i) (rules_in rows) (note_in (get_or rows i []))
  unfolding note_at
  to_rows given rows n i h e = n.true_so (suc i) (omega arith) e

  pub nothing_noted : (rows : List (List ℕ)) → Notes w 0 rows
  nothing_noted rows = from_rows 0 rows (λ i h e. absurd (omega arith))

  -- the first rules, where their rows stay
  pub first_noted : (given : ℕ) (rows : List (List ℕ)) → Notes w given rows → (n : ℕ) (rows' : List (List ℕ)) → n ≤ given → take n rows' ≡ take n rows → Notes w n rows'
  first_noted given rows noted n rows' low same = from_rows n rows' go
    where
      row : (i : ℕ) → i < n → get_or rows' i [] ≡ get_or rows i []
      row i h = sym (get_or-take n rows' i [] h) ∙ ap (λ (l : List (List ℕ)). get_or l i []) same ∙ get_or-take n rows i [] h

      rules : (i : ℕ) → i < n → take (suc i) (rules_in rows') ≡ take (suc i) (rules_in rows)
      rules i h =
          sym (take-take (suc i) n (rules_in rows') (omega arith))
          ∙ ap (take (suc i)) (take-map rule_in n rows' ∙ ap rules_in same ∙ sym (take-map rule_in n rows))
          ∙ take-take (suc i) n (rules_in rows) (omega arith)

      go : (i : ℕ) → i < n → (note_in (get_or rows' i [])).known ≡ true → Noted w (suc i) (rules_in rows') (note_in (get_or rows' i []))
      go i h e =
          let m = to_rows given rows noted i (omega arith) (sym (ap (λ (l : List ℕ). (note_in l).known) (row i h)) ∙ e) in
          record {
            keeps_so = ap (λ (l : List ℕ). (note_in l).kept) (row i h) ∙ m.keeps_so ∙ ap (kept w) (sym (rules i h));
            fixes_so = ap (λ (l : List ℕ). (note_in l).fixed) (row i h) ∙ m.fixes_so ∙ ap fixed_bits (sym (rules i h));
          }

  -- a row whose note is not known says nothing
  pub one_unknown : (n : ℕ) (rows : List (List ℕ)) → Notes w n rows → (note_in (get_or rows n [])).known ≡ false → Notes w (suc n) rows
  one_unknown n rows noted unknown = from_rows (suc n) rows go
    where
      go : (i : ℕ) → i < suc n → (note_in (get_or rows i [])).known ≡ true → Noted w (suc i) (rules_in rows) (note_in (get_or rows i []))
      go i h e = elim (ℕ_discrete i n) [
        | yes d ↦ never (sym (subst (λ (j : ℕ). (note_in (get_or rows j [])).known ≡ false) (sym d) unknown) ∙ e)
        | no d ↦ to_rows n rows noted i (omega arith) e
      ]

  -- a note that is so may be written
  pub one_noted : (given : ℕ) (rows : List (List ℕ)) → Notes w given rows → (n : ℕ) → n ≤ length rows → (k : Kept) (f : Fixed) → k ≡ kept w (take n (rules_in rows))
      → f ≡ fixed_bits (take n (rules_in rows)) → Notes w given (noting k f rows n)
  unfolding noting
  one_noted given rows noted zero there k f keeps_so fixes_so = noted
  one_noted given rows noted (suc i) there k f keeps_so fixes_so = from_rows given new go
    where
      new : List (List ℕ)
      new = noting k f rows (suc i)

      rules : rules_in new ≡ rules_in rows
      rules = rules_stay k f rows (suc i)

      go : (j : ℕ) → j < given → (note_in (get_or new j [])).known ≡ true → Noted w (suc j) (rules_in new) (note_in (get_or new j []))
      go j h e = elim (ℕ_discrete j i) [
        | yes d ↦
            let row = ap (λ (x : ℕ). note_in (get_or new x [])) d ∙ ap note_in (get_or-set_same rows i (with_note k f (get_or rows i [])) [] (omega arith)) ∙ read_again k f (get_or rows i []) in
            let first = ap₂ (λ (x : ℕ) (rs : List Rule). take (suc x) rs) (sym d) (sym rules) in
            record { keeps_so = ap (λ (m : Note). m.kept) row ∙ keeps_so ∙ ap (kept w) first; fixes_so = ap (λ (m : Note). m.fixed) row ∙ fixes_so ∙ ap fixed_bits first }
        | no d ↦
            let row = get_or-set_other rows i j (with_note k f (get_or rows i [])) [] d in
            let m = to_rows given rows noted j h (sym (ap (λ (l : List ℕ). (note_in l).known) row) ∙ e) in
            let first = ap (take (suc j)) (sym rules) in
            record {
              keeps_so = ap (λ (l : List ℕ). (note_in l).kept) row ∙ m.keeps_so ∙ ap (kept w) first;
              fixes_so = ap (λ (l : List ℕ). (note_in l).fixed) row ∙ m.fixes_so ∙ ap fixed_bits first;
            }
      ]

  -- rows whose bands were just drawn have no note
  pub drawn_unknown : (n : ℕ) (rows : List (List ℕ)) → Notes w n (drawn w n rows)
  unfolding drawn drawn_row row_of note_in
  drawn_unknown n rows = from_rows n (drawn w n rows) (λ i h e. never (sym (go n rows i h) ∙ e))
    where
      go : (m : ℕ) (l : List (List ℕ)) (i : ℕ) → i < m → (note_in (get_or (drawn w m l) i [])).known ≡ false
      go zero l i h = absurd (omega arith)
      go (suc m) [] i h = refl
      go (suc m) (row ∷ l) zero h = refl
      go (suc m) (row ∷ l) (suc i) h = go m l i (omega arith)

-- a rule that was just put has no note
pub put_unknown : (rows : List (List ℕ)) (i : ℕ) (r : Rule) (b : Band) → i < length rows → (note_in (get_or (set rows i (row_of r b)) i [])).known ≡ false
unfolding note_in row_of
put_unknown rows i r b h = ap (λ (l : List ℕ). (note_in l).known) (get_or-set_same rows i (row_of r b) [] h)
