-- The words that pass, section after section: no word more than there is room for, and each section after the last. Assumes nothing.
use mathlib.Core.Path.{◌≡◌, refl, sym, ap, ap₂, ◌∙◌}
use mathlib.Core.Bool.{Bool, true, false}
use mathlib.Core.List.{List, [], ◌∷◌, ◌++◌, append_assoc, append-nil}
use Prim.Native.Nat.{ℕ, zero, suc, ◌+◌, ◌-◌, ◌≤◌}
use native.Mathlib.Omega.{arith}
use lib.ListN.{drop, length, length-append, length-drop, length-take, take}
use lib.Seq.{drop-append-add, drop-drop, take_at}
use Rattle.word.specs.Search.{passing}
use Rattle.rule.specs.declared.band.Band.{Band}
use Rattle.rule.specs.declared.bits.Fixed.{Fixed}
use Rattle.rule.specs.bits.route.Fixed.{has_bits}
use Rattle.search.specs.rows.route.Bands.{passes}
use Rattle.search.specs.declared.section.Section.{Section}
use Rattle.search.proofs.section.Alike.{Alike, failing_passes, held-passes}
use Rattle.counting.specs.fitting.Words.{at_start}
use Rattle.counting.proofs.fitting.Passing.{none_passing, passing_same}
use Rattle.listing.specs.putting.route.Put.{put_at, section_words}
use Rattle.listing.proofs.putting.Words.{held_words, no_words, passing_on}

-- the words of a section that pass
pub section_words_lem : {t : ℕ} {bs : List Band} {p : ℕ} {s : Section} → Alike t bs p s → (f : Fixed)
    → passing (passes bs f) (suc s.to - p) p ≡ section_words s f p
section_words_lem {t} {bs} {p} {s} a f = go s.held refl
  where
    go : (v : Bool) → s.held ≡ v → passing (passes bs f) (suc s.to - p) p ≡ section_words s f p
    go true e =
        passing_same (passes bs f) (has_bits f) (suc s.to - p) p (λ y l h. held-passes a f y l (omega arith) e) ∙ sym (held_words s f p e)
    go false e =
        none_passing (passes bs f) (suc s.to - p) p (λ y l h. failing_passes a f y l (omega arith) e) ∙ sym (no_words s f p e)

-- a list taken in two parts
take_more : {A : Type 0} (m : ℕ) (u v : List A) → take m (u ++ v) ≡ take m u ++ take (m - length (take m u)) v
take_more zero u v = refl
take_more (suc m) [] v = let e : suc m ≡ suc m - 0 = omega arith in ap (λ (n : ℕ). take n v) e
take_more (suc m) (x ∷ u) v =
    let e : m - length (take m u) ≡ suc m - suc (length (take m u)) = omega arith in
    ap (λ (l : List _). x ∷ l) (take_more m u v ∙ ap (λ (n : ℕ). take m u ++ take n v) e)

-- a section after the words that stand at the start
put_after : (b xs ys : List ℕ) → put_at (at_start xs b) (length xs) ys ≡ at_start (xs ++ ys) b
unfolding put_at
put_after b xs ys =
    ap₂ (λ (k l : List ℕ). k ++ (ys ++ l)) (take_at xs (drop (length xs) b) (length xs) refl)
    (drop-append-add xs (drop (length xs) b) (length ys) ∙ drop-drop (length ys) (length xs) b)
    ∙ sym (append_assoc xs ys (drop (length xs + length ys) b))
    ∙ ap (λ (n : ℕ). (xs ++ ys) ++ drop n b) (sym (length-append xs ys))

-- the words from a start to below q that there is room for
module _ (b : List ℕ) (f : ℕ → Bool) (start : ℕ) where
  abbrev pub up_to : ℕ → List ℕ
  up_to q = take (length b) (passing f (q - start) start)

  pub up_to_fits : (q : ℕ) → length (up_to q) ≤ length b
  up_to_fits q = omega (arith, length-take (length b) (passing f (q - start) start))

  pub start_length : (q : ℕ) → length (at_start (up_to q) b) ≡ length b
  start_length q = omega (arith, up_to_fits q, length-append (up_to q) (drop (length (up_to q)) b), length-drop (length (up_to q)) b)

  -- with the words from p on behind them
  pub up_to_on : (p q : ℕ) (words : List ℕ) → start ≤ p → p ≤ q → passing f (q - p) p ≡ words → up_to q ≡ up_to p ++ take (length b - length (up_to p)) words
  up_to_on p q words l h e =
      ap (take (length b)) (passing_on f start p q l h ∙ ap (λ (xs : List ℕ). passing f (p - start) start ++ xs) e)
      ∙ take_more (length b) (passing f (p - start) start) words

  pub up_to_put : (p q : ℕ) (words : List ℕ) → start ≤ p → p ≤ q → passing f (q - p) p ≡ words → {at r : ℕ} {out out' : List ℕ}
      → at ≡ length (up_to p) → out ≡ at_start (up_to p) b → r ≡ at + length (take (length out - at) words) → out' ≡ put_at out at (take (length out - at) words)
      → (r ≡ length (up_to q)) × (out' ≡ at_start (up_to q) b)
  up_to_put p q words l h e {at} {r} {out} {out'} a o c w =
      let size : length out ≡ length b = ap length o ∙ start_length p in
      let left : length out - at ≡ length b - length (up_to p) = omega arith in
      let ys : List ℕ = take (length b - length (up_to p)) words in
      let all = up_to_on p q words l h e in (
        c ∙ ap₂ (λ (i n : ℕ). i + length (take n words)) a left ∙ sym (length-append (up_to p) ys) ∙ ap length (sym all),
        w
            ∙ ap₂ (λ (l : List ℕ) (n : ℕ). put_at l at (take n words)) o left
            ∙ ap (λ (i : ℕ). put_at (at_start (up_to p) b) i ys) a
            ∙ put_after b (up_to p) ys
            ∙ ap (λ (xs : List ℕ). at_start xs b) (sym all),
      )

  -- where there is no room left nothing comes after
  pub up_to_full : (p q : ℕ) → start ≤ p → p ≤ q → length (up_to p) ≡ length b → up_to q ≡ up_to p
  up_to_full p q l h e =
      let z : length b - length (up_to p) ≡ 0 = omega arith in
      up_to_on p q (passing f (q - p) p) l h refl
      ∙ ap (λ (n : ℕ). up_to p ++ take n (passing f (q - p) p)) z
      ∙ append-nil (up_to p)
