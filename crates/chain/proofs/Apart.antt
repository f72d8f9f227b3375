-- Two bit links never stand next to each other: the word after the first meets all form 7 rules, and the second would
-- start there. No rule has the number 255 that stands for the bits, since the limit on rules is no more. Assumes nothing.
use mathlib.Core.Path.{◌≡◌, sym, ◌∙◌}
use mathlib.Core.Bool.{true, false≢true}
use mathlib.Core.Logic.{◌⊎◌, inl, inr}
use mathlib.Core.List.{List}
use Prim.Native.Nat.{ℕ, suc, ◌≤◌, ◌<◌}
use native.Mathlib.Nat.{le_refl}
use native.Mathlib.Omega.{arith}
use lib.ListN.{length}
use Rattle.word.specs.Word.{top}
use Rattle.rule.specs.declared.Rule.{Rule}
use Rattle.rule.specs.Meaning.{RULES, meets7}
use Rattle.chain.specs.Chain.{Apart, BitsLink, IsChain, Taken}
use Rattle.chain.specs.Chain.Apart.{one, two}
use Rattle.chain.specs.Chain.IsChain.{last, more}
use Rattle.chain.specs.declared.Link.{Link}
use Rattle.chain.specs.Links.{BITS}

-- "reasons still fit two digits, 255 kept apart": 255 is never the number of a rule in force
pub number_apart : (rs : List Rule) → length rs ≤ RULES → (i : ℕ) → i < length rs → i ≡ BITS → ⊥
number_apart rs few i there e = omega arith

module _ (w : ℕ) (rs : List Rule) where
  pub bits_once : {p : ℕ} (q q' : ℕ) → BitsLink w rs p q → q < top w → BitsLink w rs (suc q) q' → ⊥
  bits_once q q' b h c = go b.next
    where
      go : (q ≡ top w) ⊎ (meets7 w rs (suc q) ≡ true) → ⊥
      go (inl e) = omega arith
      go (inr e) = false≢true (sym (c.lacks.each (suc q) (le_refl (suc q)) c.lacks.order) ∙ e)

  module _ (few : length rs ≤ RULES) where
    for_bits : {p : ℕ} (l : Link) → Taken w rs p l → l.reason ≡ BITS → BitsLink w rs p l.to
    for_bits l (inl (r, s)) d = absurd (number_apart rs few l.reason r.fails.plain.there d)
    for_bits l (inr (e, s, b)) d = b

    next_apart : {p : ℕ} {l m : Link} → Taken w rs p l → l.to < top w → Taken w rs (suc l.to) m → l.reason ≡ BITS → m.reason ≡ BITS → ⊥
    next_apart t h u e d = bits_once _ _ (for_bits _ t e) h (for_bits _ u d)

    pub chain_apart : {p : ℕ} {ls : List Link} → IsChain w rs p ls → Apart ls
    chain_apart (last t e) = one
    chain_apart (more t h (last u e)) = two (next_apart t h u) one
    chain_apart (more t h (more u i c)) = two (next_apart t h u) (chain_apart (more u i c))
