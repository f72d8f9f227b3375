-- There is one link to take at a word, so there is one chain from it: two rule links reach as far as each other, and then
-- each has the lower number, and its run starts at one word; two bit links end before the same word; and where a rule fails there is no bit link. By
-- induction on the one chain. Assumes nothing.
use mathlib.Core.Path.{◌≡◌, sym, ap, ap₂, ◌∙◌, subst}
use mathlib.Core.Bool.{true, false≢true}
use mathlib.Core.Logic.{◌⊎◌, inl, inr}
use mathlib.Core.List.{List, [], ◌∷◌}
use Prim.Native.Nat.{ℕ, suc, ◌≤◌, ◌<◌}
use native.Mathlib.Nat.{le_refl}
use native.Mathlib.Decide.{dec_lt}
use native.Mathlib.Omega.{arith}
use Rattle.word.specs.Word.{top}
use Rattle.rule.specs.declared.Rule.{Rule}
use Rattle.rule.specs.Meaning.{meets7}
use Rattle.chain.specs.Chain.{BitsLink, Fails, IsChain, RuleLink, Starts, Taken}
use Rattle.chain.specs.Chain.IsChain.{last, more}
use Rattle.chain.specs.declared.Link.{Link}

module _ (w : ℕ) (rs : List Rule) where
  module _ {p : ℕ} where
    one_rule : (q q' i i' : ℕ) → RuleLink w rs p q i → RuleLink w rs p q' i' → (q ≡ q') × (i ≡ i')
    one_rule q q' i i' r s =
        let e : q ≡ q' = omega (arith, r.furthest i' q' s.fails, s.furthest i q r.fails) in (
          e,
          omega (
            arith,
            r.lowest i' (subst (λ (t : ℕ). Fails w rs i' p t) (sym e) s.fails),
            s.lowest i (subst (λ (t : ℕ). Fails w rs i p t) e r.fails),
          ),
        )

    one_start : (s s' i i' : ℕ) → i ≡ i' → Starts w rs p s i → Starts w rs p s' i' → s ≡ s'
    one_start s s' i i' e a b =
        let c : Starts w rs p s' i = subst (Starts w rs p s') (sym e) b in
        omega (arith, a.lowest s' c.fails, c.lowest s a.fails)

    not_both : (q q' i : ℕ) → RuleLink w rs p q i → BitsLink w rs p q' → ⊥
    not_both q q' i r b =
        let f = r.fails in
        b.no_rule i
        (record { plain = f.plain; order = le_refl p; word = omega (arith, f.order, f.word); each = λ x l h. f.each x l (omega (arith, f.order)) })

    no_less : (q q' : ℕ) → BitsLink w rs p q → BitsLink w rs p q' → q' ≤ q
    no_less q q' b c = go (dec_lt q q') b.next
      where
        go : Dec (q < q') → (q ≡ top w) ⊎ (meets7 w rs (suc q) ≡ true) → q' ≤ q
        go (yes d) (inl e) = omega (arith, c.lacks.word)
        go (yes d) (inr e) = absurd (false≢true (sym (c.lacks.each (suc q) (omega (arith, b.lacks.order)) d) ∙ e))
        go (no d) e = omega arith

    one_link : (l m : Link) → Taken w rs p l → Taken w rs p m → l ≡ m
    one_link l m = go
      where
        same : l.from ≡ m.from → (l.to ≡ m.to) × (l.reason ≡ m.reason) → l ≡ m
        same d e = λ i. record { from = d i; to = e.0 i; reason = e.1 i }

        go : Taken w rs p l → Taken w rs p m → l ≡ m
        go (inl (r, a)) (inl (s, b)) = let e = one_rule _ _ _ _ r s in same (one_start _ _ _ _ e.1 a b) e
        go (inl (r, a)) (inr (e, d, s)) = absurd (not_both _ _ _ r s)
        go (inr (e, d, r)) (inl (s, b)) = absurd (not_both _ _ _ s r)
        go (inr (e, d, r)) (inr (e', d', s)) = same (d ∙ sym d') (omega (arith, no_less _ _ r s, no_less _ _ s r), e ∙ sym e')

  pub one_chain : {p : ℕ} {ls ms : List Link} → IsChain w rs p ls → IsChain w rs p ms → ls ≡ ms
  one_chain (last t e) (last u d) = ap (λ (l : Link). l ∷ []) (one_link _ _ t u)
  one_chain (last t e) (more u d c) = absurd (omega (arith, ap (λ (l : Link). l.to) (one_link _ _ t u)))
  one_chain (more t e c) (last u d) = absurd (omega (arith, ap (λ (l : Link). l.to) (one_link _ _ t u)))
  one_chain (more {ls = ls} t e c) (more {ls = ms} u d b) =
      let s = one_link _ _ t u in
      ap₂ ◌∷◌ s (one_chain c (subst (λ (l : Link). IsChain w rs (suc l.to) ms) (sym s) b))
