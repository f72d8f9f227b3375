-- The walk that writes the chain: what is left of the links is the chain from p, and the buffer has those before it. Each
-- link moves both on, the last one ends the walk, and the bound on the links keeps it inside the buffer. Assumes nothing.
use mathlib.Core.Path.{◌≡◌, refl, sym, ap, ap₂, ◌∙◌}
use mathlib.Core.Bool.{Bool, true, false}
use mathlib.Core.List.{List, [], ◌∷◌, ◌++◌}
use Prim.Native.Nat.{ℕ, zero, suc, ◌+◌, ◌-◌, ◌*◌, ◌^◌, ◌≤◌, ◌<◌}
use native.Mathlib.Omega.{arith}
use lib.ListN.{drop, length, length-drop, take}
use lib.Seq.{length-take-le, take_all}
use Rattle.word.specs.Word.{top}
use Rattle.word.proofs.Widths.{top-suc}
use Rattle.rule.specs.declared.Rule.{Rule}
use Rattle.rule.specs.Meaning.{AllLawful, fits}
use Rattle.rule.specs.declared.band.Band.{Band}
use Rattle.rule.specs.declared.bits.Fixed.{Fixed}
use Rattle.search.specs.rows.route.OfRules.{OfLawful}
use Rattle.search.specs.verdict.Kept.{kept}
use Rattle.search.proofs.verdict.Right.{kept_right}
use Rattle.chain.specs.declared.Link.{Link}
use Rattle.chain.specs.Links.{go_on, numbers_of, link_at, links, links_from}
use Rattle.chain.specs.route.OnBands.{link_on}
use Rattle.chain.proofs.Bound.{chain_bound}
use Rattle.chain.proofs.Lists.{Next, next_of, paste_on}
use Rattle.chain.proofs.OnBands.{link_law}
use Rattle.chain.proofs.Steps.{NoFit, chain_is, links_end, links_on}
use Rattle.chain.proofs.Taken.{taken, taken_order}

-- the verdict 0 says that no word fits
pub none_fits : (w : ℕ) (rs : List Rule) → (kept w rs).verdict ≡ 0 → NoFit w rs
none_fits w rs e x h = go (fits w rs x) refl
  where
    go : (s : Bool) → fits w rs x ≡ s → s ≡ false
    go true d = absurd ((kept_right w rs).none.0 e x (record { word = h; meets = d }))
    go false d = refl

-- a step over the bands and the bits of rules is the paper's
pub own_link : (bands : List Band) (fixed : Fixed) (w : ℕ) (rs : List Rule) → 1 ≤ w → OfLawful w bands fixed rs → (p : ℕ) → p ≤ top w
    → link_on bands fixed (top w) p ≡ link_at w rs p
own_link bands fixed w rs width h p word =
    ap₂ (λ (bs : List Band) (f : Fixed). link_on bs f (top w) p) h.1.own h.1.bits ∙ link_law w width p word rs h.0

-- so many links are written, and the next is the one at p
pub record Walked (w : ℕ) (rs : List Rule) (out₀ out : List ℕ) (count p : ℕ) : Type 0 where
  pub rest : drop count (links w rs) ≡ links_from w rs (suc (top w) - p) p
  pub written : out ≡ numbers_of (take count (links w rs)) ++ drop (3 * count) out₀

numbers_more : (ls ms : List Link) → numbers_of (ls ++ ms) ≡ numbers_of ls ++ numbers_of ms
unfolding numbers_of
numbers_more [] ms = refl
numbers_more (l ∷ ls) ms = ap (λ (ns : List ℕ). l.from ∷ l.to ∷ l.reason ∷ ns) (numbers_more ls ms)

pub numbers_length : (ls : List Link) → length (numbers_of ls) ≡ 3 * length ls
unfolding numbers_of
numbers_length [] = refl
numbers_length (l ∷ ls) = omega (arith, numbers_length ls)

-- one link put behind those that are written
put_next : (ls : List Link) (out₀ out : List ℕ) (count : ℕ) (l : Link) {ms : List Link} → Next ls count l ms
    → out ≡ numbers_of (take count ls) ++ drop (3 * count) out₀
    → take (3 * count) out ++ l.from ∷ l.to ∷ l.reason ∷ drop (3 * count + 3) out ≡ numbers_of (take (count + 1) ls) ++ drop (3 * (count + 1)) out₀
unfolding numbers_of
put_next ls out₀ out count l n e =
    let many = length-take-le count ls (omega (arith, n.there)) in
    let size : length (numbers_of (take count ls)) ≡ 3 * count = omega (arith, numbers_length (take count ls)) in
    let more : suc count ≡ count + 1 = omega arith in
    let on : 3 * count + 3 ≡ 3 * (count + 1) = omega arith in
    paste_on (numbers_of (take count ls)) (l.from ∷ l.to ∷ l.reason ∷ []) out out₀ (3 * count) 3 size e
    ∙ ap₂ (λ (ns : List ℕ) (k : ℕ). ns ++ drop k out₀)
    (sym (numbers_more (take count ls) (l ∷ [])) ∙ ap numbers_of (sym n.taken) ∙ ap (λ (k : ℕ). numbers_of (take k ls)) more) on

some_link : (w : ℕ) (rs : List Rule) (k p : ℕ) → 1 ≤ k → (ls : List Link) × (links_from w rs k p ≡ link_at w rs p ∷ ls)
unfolding links_from go_on
some_link w rs zero p h = absurd (omega arith)
some_link w rs (suc k) p h = (_, refl)

pub walk_start : (w : ℕ) (rs : List Rule) (out : List ℕ) → Walked w rs out out 0 0
unfolding links numbers_of
walk_start w rs out =
    let fuel : 2 ^ w ≡ suc (top w) - 0 = omega (arith, top-suc w) in
    record { rest = ap (λ (k : ℕ). links_from w rs k 0) fuel; written = refl }

module _ (w : ℕ) (rs : List Rule) (no_fit : NoFit w rs) (p : ℕ) (word : p ≤ top w) where
  pub link_order : (l : Link) → l ≡ link_at w rs p → (p ≤ l.to) × (l.to ≤ top w)
  link_order l here = rw here (taken_order (taken w rs p word (no_fit p word)))

  module _ (out₀ out : List ℕ) (count : ℕ) (walk : Walked w rs out₀ out count p) where
    -- there is room for one link more
    pub walk_room : 1 ≤ w → AllLawful w rs → count ≤ 4 * length rs
    walk_room width lawful =
        let (ls, e) = some_link w rs (suc (top w) - p) p (omega arith) in
        let n = next_of (links w rs) count (link_at w rs p) ls (walk.rest ∙ e) in
        omega (arith, n.there, chain_bound w width rs lawful (links w rs) (chain_is w rs no_fit))

    module _ (l : Link) (here : l ≡ link_at w rs p) (out' : List ℕ) (put : out' ≡ take (3 * count) out ++ l.from ∷ l.to ∷ l.reason ∷ drop (3 * count + 3) out) where
      pub walk_on : l.to < top w → Walked w rs out₀ out' (count + 1) (l.to + 1)
      walk_on h =
          let t : l.to ≡ (link_at w rs p).to = ap (λ (m : Link). m.to) here in
          let k : ℕ = suc (top w) - (l.to + 1) in
          let e = links_on w rs no_fit p word (suc (top w) - p) k (omega arith) (omega arith) (omega arith) in
          let n = next_of (links w rs) count l (links_from w rs k (suc l.to)) (walk.rest ∙ e ∙ ap (λ (m : Link). m ∷ links_from w rs k (suc m.to)) (sym here)) in
          let one : count + 1 ≡ suc count = omega arith in
          let up : suc l.to ≡ l.to + 1 = omega arith in
          record {
            rest = ap (λ (i : ℕ). drop i (links w rs)) one ∙ n.left ∙ ap (links_from w rs k) up;
            written = put ∙ put_next (links w rs) out₀ out count l n walk.written;
          }

      pub walk_end : l.to ≡ top w → (count + 1 ≡ length (links w rs)) × (out' ≡ numbers_of (links w rs) ++ drop (3 * (count + 1)) out₀)
      walk_end h =
          let t : l.to ≡ (link_at w rs p).to = ap (λ (m : Link). m.to) here in
          let e = links_end w rs no_fit p word (suc (top w) - p) (omega arith) (omega arith) in
          let n = next_of (links w rs) count l [] (walk.rest ∙ e ∙ ap (λ (m : Link). m ∷ []) (sym here)) in
          let past = length-drop (suc count) (links w rs) in
          let full : count + 1 ≡ length (links w rs) = omega (arith, n.there, ap length n.left) in (
            full,
            put
                ∙ put_next (links w rs) out₀ out count l n walk.written
                ∙ ap (λ (ls : List Link). numbers_of ls ++ drop (3 * (count + 1)) out₀) (take_all (count + 1) (links w rs) (omega arith)),
          )
