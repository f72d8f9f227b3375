-- Links may overlap, but each starts above the one before it: a rule that fails from the word where that one was found to past its end
-- would have been taken there. So no link but the first starts at 0. Assumes nothing.
use mathlib.Core.List.{List, ◌∷◌}
use mathlib.Core.Logic.{inl, inr}
use Prim.Native.Nat.{ℕ, suc, ◌≤◌, ◌<◌}
use native.Mathlib.Nat.{le_refl}
use native.Mathlib.Decide.{dec_lt}
use native.Mathlib.Omega.{arith}
use Rattle.rule.specs.declared.Rule.{Rule}
use Rattle.chain.specs.Chain.{Fails, IsChain, Taken}
use Rattle.chain.specs.Chain.IsChain.{last, more}
use Rattle.chain.specs.declared.Link.{Link}
use Rattle.chain.proofs.Taken.{taken_from, taken_order}

module _ (w : ℕ) (rs : List Rule) where
  -- a part of what a rule fails
  part : (i s p p' q : ℕ) → s ≤ p → p ≤ p' → p' ≤ q → Fails w rs i s q → Fails w rs i p p'
  part i s p p' q a b c f = record { plain = f.plain; order = b; word = omega (arith, f.word); each = λ x d e. f.each x (omega arith) (omega arith) }

  not_past : {p : ℕ} {l : Link} (i : ℕ) → Taken w rs p l → Fails w rs i p (suc l.to) → ⊥
  not_past i (inl (r, s)) f = omega (arith, r.furthest i _ f)
  not_past i (inr (e, d, b)) f = b.no_rule i (part i _ _ _ _ (le_refl _) (le_refl _) f.order f)

  above : {p : ℕ} {l m : Link} → Taken w rs p l → Taken w rs (suc l.to) m → p < m.from
  above t (inr (e, d, b)) = omega (arith, (taken_order t).0)
  above {p} {l} {m} t (inl (r, s)) = go (dec_lt p m.from)
    where
      go : Dec (p < m.from) → p < m.from
      go (yes d) = d
      go (no d) =
          let q = suc l.to in
          absurd (not_past m.reason t (part m.reason m.from p q q (omega arith) (omega (arith, (taken_order t).0)) (le_refl q) s.fails))

  pub starts_rise : {p : ℕ} {l m : Link} {ls : List Link} → IsChain w rs p (l ∷ m ∷ ls) → l.from < m.from
  starts_rise (more t h (last u e)) = omega (arith, taken_from t, above t u)
  starts_rise (more t h (more u i c)) = omega (arith, taken_from t, above t u)
