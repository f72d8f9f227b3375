-- The chain is alike the one before K8 but for where its links start: the link at a word has the same end and reason, and only its
-- end says which word is next. Assumes nothing.
use mathlib.Core.Path.{◌≡◌, refl, ap, ap₂, subst}
use mathlib.Core.Bool.{Bool, true, false}
use mathlib.Core.List.{List, [], ◌∷◌}
use Prim.Native.Nat.{ℕ, zero, suc, ◌^◌}
use lib.Dec.{eqb}
use Rattle.word.specs.Word.{top}
use Rattle.rule.specs.declared.Rule.{Rule}
use Rattle.chain.specs.declared.Far.{Far}
use Rattle.chain.specs.declared.Far.TheVariants.{To, Nowhere}
use Rattle.chain.specs.declared.Link.{Link}
use Rattle.chain.specs.Before.{Alike, old_link_at, old_links}
use Rattle.chain.specs.Links.{furthest, gap, go_on, link_at, link_by, links, links_from}

nothing : Alike [] []
nothing = record { number = refl; ends = refl; reasons = refl }

module _ (at at' : ℕ → Link) (same : (p : ℕ) → ((at p).to ≡ (at' p).to) × ((at p).reason ≡ (at' p).reason)) where
  one_more : (p : ℕ) {ls ms : List Link} → Alike ls ms → Alike (at p ∷ ls) (at' p ∷ ms)
  one_more p a =
      record {
        number = ap suc a.number;
        ends = ap₂ ◌∷◌ (same p).0 a.ends;
        reasons = ap₂ ◌∷◌ (same p).1 a.reasons;
      }

  alike : (t k p : ℕ) → Alike (go_on at t k p) (go_on at' t k p)
  unfolding go_on
  alike t zero p = nothing
  alike t (suc k) p = one_more p (subst (λ (r : ℕ). Alike (rest at (at p).to) (rest at' r)) (same p).0 (go (eqb (at p).to t) (alike t k (suc (at p).to))))
    where
      -- what follows a link that ends at q
      rest : (ℕ → Link) → ℕ → List Link
      rest f q = elim (eqb q t) [ true ↦ [] | false ↦ go_on f t k (suc q) ]

      go : (s : Bool) → Alike (go_on at t k (suc (at p).to)) (go_on at' t k (suc (at p).to))
          → Alike (elim s as (λ (u : Bool). List Link) [ true ↦ [] | false ↦ go_on at t k (suc (at p).to) ])
          (elim s as (λ (u : Bool). List Link) [ true ↦ [] | false ↦ go_on at' t k (suc (at p).to) ])
      go true later = nothing
      go false later = later

by_any_start : (f g : ℕ → ℕ) (p gap : ℕ) (far : Far) → ((link_by f p gap far).to ≡ (link_by g p gap far).to) × ((link_by f p gap far).reason ≡ (link_by g p gap far).reason)
unfolding link_by
by_any_start f g p gap (To q i) = (refl, refl)
by_any_start f g p gap Nowhere = (refl, refl)

pub as_before : (w : ℕ) (rs : List Rule) → Alike (links w rs) (old_links w rs)
unfolding links links_from old_links link_at old_link_at
as_before w rs = alike (link_at w rs) (old_link_at w rs) (λ p. by_any_start _ _ p (gap w rs p) (furthest w rs p)) (top w) (2 ^ w) 0

-- "Links with reason 255 stay": where p fails no rule outside form 7, the link at p is the very one from before
pub bits_stay : (w : ℕ) (rs : List Rule) (p : ℕ) → furthest w rs p ≡ Nowhere → link_at w rs p ≡ old_link_at w rs p
unfolding link_at old_link_at link_by
bits_stay w rs p e = rw e
