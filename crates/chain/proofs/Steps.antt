-- Where no word fits the links are the chain, the only one, and any fuel that reaches past the top word gives it: each
-- link is the one to take and goes up by a word at least. Assumes nothing.
use mathlib.Core.Path.{◌≡◌, refl}
use mathlib.Core.Bool.{Bool, true, false}
use mathlib.Core.List.{List, [], ◌∷◌}
use Prim.Native.Nat.{ℕ, zero, suc, ◌+◌, ◌≤◌, ◌<◌}
use native.Mathlib.Omega.{arith}
use borrow.Author.Tests.{eqb-false, eqb-true}
use lib.Dec.{eqb}
use Rattle.word.specs.Word.{top}
use Rattle.word.proofs.Widths.{top-suc}
use Rattle.rule.specs.declared.Rule.{Rule}
use Rattle.rule.specs.Meaning.{fits}
use Rattle.chain.specs.Chain.{IsChain}
use Rattle.chain.specs.Chain.IsChain.{last, more}
use Rattle.chain.specs.declared.Link.{Link}
use Rattle.chain.specs.Links.{go_on, link_at, links, links_from}
use Rattle.chain.proofs.Cover.{chain_covers, covers_no_fit}
use Rattle.chain.proofs.Taken.{taken, taken_order}
use Rattle.chain.proofs.Unique.{one_chain}

abbrev pub NoFit : ℕ → List Rule → Type 0
NoFit w rs = (x : ℕ) → x ≤ top w → fits w rs x ≡ false

module _ (w : ℕ) (rs : List Rule) (no_fit : NoFit w rs) where
  chain_from : (k p : ℕ) → p ≤ top w → top w < p + k → IsChain w rs p (links_from w rs k p)
  unfolding links_from go_on
  chain_from zero p h l = absurd (omega arith)
  chain_from (suc k) p h l = go (eqb (link_at w rs p).to (top w)) refl (chain_from k (suc (link_at w rs p).to))
    where
      q : ℕ
      q = (link_at w rs p).to

      go : (s : Bool) → eqb q (top w) ≡ s
          → (suc q ≤ top w → top w < suc q + k → IsChain w rs (suc q) (links_from w rs k (suc q)))
          → IsChain w rs p (link_at w rs p ∷ (elim s as (λ (t : Bool). List Link) [ true ↦ [] | false ↦ links_from w rs k (suc q) ]))
      go true e later = last (taken w rs p h (no_fit p h)) (eqb-true _ _ e)
      go false e later =
          let t = taken w rs p h (no_fit p h) in
          let b = taken_order t in
          let n = eqb-false q (top w) e in
          let up : q < top w = omega arith in
          more t up (later up (omega arith))

  pub chain_is : IsChain w rs 0 (links w rs)
  unfolding links
  chain_is = chain_from _ 0 (omega arith) (omega (arith, top-suc w))

  module _ (p : ℕ) (word : p ≤ top w) where
    pub links_end : (k : ℕ) → top w < p + k → (link_at w rs p).to ≡ top w → links_from w rs k p ≡ link_at w rs p ∷ []
    links_end k l e = one_chain w rs (chain_from k p word l) (last (taken w rs p word (no_fit p word)) e)

    pub links_on : (k k' : ℕ) → top w < p + k → top w < suc (link_at w rs p).to + k' → (link_at w rs p).to < top w
        → links_from w rs k p ≡ link_at w rs p ∷ links_from w rs k' (suc (link_at w rs p).to)
    links_on k k' l m h =
        one_chain w rs (chain_from k p word l) (more (taken w rs p word (no_fit p word)) h (chain_from k' _ h m))

pub chain_unique : (w : ℕ) (rs : List Rule) (ls : List Link) → IsChain w rs 0 ls → ls ≡ links w rs
chain_unique w rs ls c = one_chain w rs c (chain_is w rs (λ x. covers_no_fit w rs (chain_covers w rs c) x (omega arith)))
