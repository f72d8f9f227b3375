-- n rules give at most 4n + 1 links. Count the runs that are still to end, at most two for each rule outside form 7: a
-- rule link goes past the end of a run of its rule, the count never grows, and the link after a bit link is a rule link.
-- So there are at most two links for each run, and one bit link before them. Assumes nothing.
use mathlib.Core.Path.{◌≡◌, refl, ap, ◌∙◌}
use mathlib.Core.Bool.{Bool, true, false, cond}
use mathlib.Core.Logic.{◌⊎◌, inl, inr}
use mathlib.Core.List.{List, [], ◌∷◌}
use Prim.Native.Nat.{ℕ, zero, suc, ◌+◌, ◌*◌, ◌≤◌, ◌<◌}
use native.Mathlib.Nat.{le_refl}
use native.Mathlib.Decide.{dec_lt, ℕ_discrete}
use native.Mathlib.Omega.{arith}
use borrow.Author.Tests.{eq-eqb, ne_eqb}
use lib.Dec.{eqb}
use lib.ListN.{length}
use Rattle.word.specs.Word.{top}
use Rattle.rule.specs.declared.Rule.{Rule}
use Rattle.rule.specs.Meaning.{AllLawful, Lawful, ends, meets, runs}
use Rattle.rule.proofs.Runs.{run_ends, runs_later, runs_past}
use Rattle.rule.proofs.band.Law.{two_runs}
use Rattle.chain.specs.Chain.{BitsLink, Fails, IsChain, Plain, RuleLink}
use Rattle.chain.specs.Chain.IsChain.{last, more}
use Rattle.chain.specs.declared.Link.{Link}
use Rattle.chain.specs.Links.{most_links, nth}
use Rattle.chain.proofs.Apart.{bits_once}

-- the runs of a rule that end at p or later, none of a form 7 rule
share : ℕ → Rule → ℕ → ℕ
share w r p = cond (eqb r.form 7) 0 (runs w r p)

-- and those of all the rules
total : ℕ → List Rule → ℕ → ℕ
total w [] p = 0
total w (r ∷ rs) p = share w r p + total w rs p

module _ (w p q : ℕ) (order : p ≤ q) (word : q ≤ top w) where
  share_later : (r : Rule) → share w r (suc q) ≤ share w r p
  unfolding share
  share_later r = go (eqb r.form 7)
    where
      go : (s : Bool) → cond s 0 (runs w r (suc q)) ≤ cond s 0 (runs w r p)
      go true = le_refl 0
      go false = runs_later w r p q order word

  total_later : (rs : List Rule) → total w rs (suc q) ≤ total w rs p
  unfolding total
  total_later [] = le_refl 0
  total_later (r ∷ rs) = omega (arith, share_later r, total_later rs)

  total_past : (rs : List Rule) (i : ℕ) → Plain rs i → ends w (nth rs i) q ≡ true → total w rs (suc q) < total w rs p
  unfolding total share
  total_past [] i d e = absurd (omega (arith, d.there))
  total_past (r ∷ rs) zero d e = rw (ne_eqb r.form 7 d.other) (omega (arith, runs_past w r p q order word e, total_later rs))
  total_past (r ∷ rs) (suc i) d e = omega (arith, share_later r, total_past rs i (record { there = omega (arith, d.there); other = d.other }) e)

share_two : (w : ℕ) → 1 ≤ w → (r : Rule) → Lawful w r → share w r 0 ≤ 2
unfolding share
share_two w width r l = go (ℕ_discrete r.form 7)
  where
    go : Dec (r.form ≡ 7) → share w r 0 ≤ 2
    go (yes e) = rw (eq-eqb r.form 7 e) (omega arith)
    go (no e) = rw (ne_eqb r.form 7 e) (two_runs w width r l e)

total_two : (w : ℕ) → 1 ≤ w → (rs : List Rule) → AllLawful w rs → total w rs 0 ≤ 2 * length rs
unfolding total AllLawful
total_two w width [] l = le_refl 0
total_two w width (r ∷ rs) l = omega (arith, share_two w width r l.0, total_two w width rs l.1)

module _ (w : ℕ) (rs : List Rule) where
  one_further : (i p q : ℕ) → Fails w rs i p q → q < top w → meets w (nth rs i) (suc q) ≡ false → Fails w rs i p (suc q)
  one_further i p q f h e = record { plain = f.plain; order = omega (arith, f.order); word = h; each = λ x a b. go x a b (dec_lt q x) }
    where
      go : (x : ℕ) → p ≤ x → x ≤ suc q → Dec (q < x) → meets w (nth rs i) x ≡ false
      go x a b (yes d) = let s : x ≡ suc q = omega arith in ap (meets w (nth rs i)) s ∙ e
      go x a b (no d) = f.each x a (omega arith)

  module _ {p q i : ℕ} (link : RuleLink w rs p q i) where
    -- the last word of a rule link ends a run of its rule
    link_ends : ends w (nth rs i) q ≡ true
    link_ends =
        run_ends w (nth rs i) q (link.fails.each q link.fails.order (le_refl q))
        (go (ℕ_discrete q (top w)) (meets w (nth rs i) (suc q)) refl)
      where
        go : Dec (q ≡ top w) → (s : Bool) → meets w (nth rs i) (suc q) ≡ s → (q ≡ top w) ⊎ (meets w (nth rs i) (suc q) ≡ true)
        go (yes e) s d = inl e
        go (no e) true d = inr d
        go (no e) false d =
            absurd (omega (arith, link.furthest i (suc q) (one_further i p q link.fails (omega (arith, link.fails.word)) d)))

    rule_past : total w rs (suc q) < total w rs p
    rule_past = total_past w p q link.fails.order link.fails.word rs i link.fails.plain link_ends

  few_links : {p : ℕ} {ls : List Link} → IsChain w rs p ls
      → (length ls ≤ 2 * total w rs p + 1) × (((q : ℕ) → BitsLink w rs p q → ⊥) → length ls ≤ 2 * total w rs p)
  few_links (last (inl (r, s)) h) = (omega (arith, rule_past r), λ n. omega (arith, rule_past r))
  few_links (last (inr (e, s, b)) h) = (omega arith, λ n. absurd (n _ b))
  few_links (more (inl (r, s)) h c) =
      let rest = (few_links c).0 in
      (omega (arith, rule_past r), λ n. omega (arith, rule_past r))
  few_links (more {p} {l} (inr (e, s, b)) h c) =
      let rest = (few_links c).1 (λ q d. bits_once w rs l.to q b h d) in
      (omega (arith, total_later w p l.to b.lacks.order b.lacks.word rs), λ n. absurd (n _ b))

pub chain_bound : (w : ℕ) → 1 ≤ w → (rs : List Rule) → AllLawful w rs → (ls : List Link) → IsChain w rs 0 ls → length ls ≤ most_links (length rs)
chain_bound w width rs l ls c = omega (arith, (few_links w rs c).0, total_two w width rs l)
