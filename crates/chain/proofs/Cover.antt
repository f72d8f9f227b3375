-- A chain shows that no word fits. Each of its links shows that its words fail a rule or the form 7 rules, the links cover
-- every word, and a word that fails either does not fit. Assumes nothing.
use mathlib.Core.Path.{◌≡◌, sym, subst}
use mathlib.Core.Bool.{false}
use mathlib.Core.Logic.{inl, inr}
use mathlib.Core.List.{List, ◌∷◌}
use Prim.Native.Nat.{ℕ, suc, max, ◌≤◌, ◌<◌}
use native.Mathlib.Decide.{dec_lt}
use native.Mathlib.Omega.{arith}
use Rattle.word.specs.Word.{top}
use Rattle.rule.specs.declared.Rule.{Rule}
use Rattle.rule.specs.Meaning.{fits, meets}
use Rattle.chain.specs.Chain.{Covers, Fails, IsChain, Shown, Shows, Taken}
use Rattle.chain.specs.Chain.Covers.{end, on}
use Rattle.chain.specs.Chain.IsChain.{last, more}
use Rattle.chain.specs.Chain.Shown.{here, later}
use Rattle.chain.specs.declared.Link.{Link}
use Rattle.chain.specs.Links.{nth}
use Rattle.chain.proofs.Failing.{bits_fail, rule_fails}
use Rattle.chain.proofs.Taken.{taken_from, taken_order}

module _ (w : ℕ) (rs : List Rule) where
  both_ways : (i s p q : ℕ) → Fails w rs i s p → Fails w rs i p q → Fails w rs i s q
  both_ways i s p q f g =
      record { plain = g.plain; order = omega (arith, f.order, g.order); word = g.word; each = λ x a b. go x a b (dec_lt p x) }
    where
      go : (x : ℕ) → s ≤ x → x ≤ q → Dec (p < x) → meets w (nth rs i) x ≡ false
      go x a b (yes d) = g.each x (omega arith) b
      go x a b (no d) = f.each x a (omega arith)

  shown : {p : ℕ} {l : Link} → Taken w rs p l → Shows w rs l
  shown (inl (r, s)) = inl (both_ways _ _ _ _ s.fails r.fails)
  shown (inr (e, d, b)) = inr (e, rw d b.lacks)

  pub chain_covers : {p : ℕ} {ls : List Link} → IsChain w rs p ls → Covers w rs p ls
  chain_covers (last {p} {l} t e) =
      let all : max p (suc l.to) ≡ suc (top w) = omega (arith, (taken_order t).0) in
      on (taken_from t) (shown t) (end all)
  chain_covers (more {p} {l} {ls} t e c) =
      let next : max p (suc l.to) ≡ suc l.to = omega (arith, (taken_order t).0) in
      on (taken_from t) (shown t) (subst (λ (n : ℕ). Covers w rs n ls) (sym next) (chain_covers c))

  shown_no_fit : (l : Link) → Shows w rs l → (x : ℕ) → l.from ≤ x → x ≤ l.to → fits w rs x ≡ false
  shown_no_fit l (inl f) x a b = rule_fails w x rs l.reason f.plain.there (f.each x a b)
  shown_no_fit l (inr f) x a b = bits_fail w x rs (f.1.each x a b)

  -- "the chain covers each word at least once" (K8)
  pub covers_each : {n : ℕ} {ls : List Link} → Covers w rs n ls → (x : ℕ) → n ≤ x → x ≤ top w → Shown w rs x ls
  covers_each (end e) x a b = absurd (omega arith)
  covers_each (on {l = l} {ls = ls} e s c) x a b = go (dec_lt l.to x) (λ d. covers_each c x (omega arith) b)
    where
      go : Dec (l.to < x) → (l.to < x → Shown w rs x ls) → Shown w rs x (l ∷ ls)
      go (yes d) rest = later (rest d)
      go (no d) rest = here {l = l} (omega arith) (omega arith) s

  shown_fails : {x : ℕ} {ls : List Link} → Shown w rs x ls → fits w rs x ≡ false
  shown_fails (here {l} a b s) = shown_no_fit l s _ a b
  shown_fails (later t) = shown_fails t

  pub covers_no_fit : {n : ℕ} {ls : List Link} → Covers w rs n ls → (x : ℕ) → n ≤ x → x ≤ top w → fits w rs x ≡ false
  covers_no_fit c x a b = shown_fails (covers_each c x a b)
