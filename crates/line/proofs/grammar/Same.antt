-- Kinds are the same where their numbers are, and the lemmas that the goals of the grammar want. Assumes nothing.
use mathlib.Core.Path.{◌≡◌, refl, sym, ap, subst, ◌∙◌}
use mathlib.Core.Bool.{Bool, true, false, ◌&&◌}
use mathlib.Core.Logic.{◌⊎◌, inl, inr}
use mathlib.Core.List.{List, [], ◌∷◌, ◌++◌}
use Prim.Native.Nat.{ℕ, zero, suc, ◌+◌, ◌≤◌, ◌<◌}
use native.Mathlib.Decide.{ℕ_discrete}
use native.Mathlib.Numerals.{add-one}
use native.Mathlib.Omega.{arith}
use borrow.Author.Tests.{eq-eqb, eqb-true, le-leb, le-ltb, lt-leb, lt-ltb, ne_eqb}
use lib.ListN.{get_or, get_or-eq_default, length}
use Rattle.line.specs.declared.grammar.kind.Kind.{Kind}
use Rattle.line.specs.declared.grammar.kind.Kind.TheVariants.{Amount, End, Fraction, Large, Name, Negative, Number, Other, Rule, ShorterLine, SignedWord, Statement}
use Rattle.line.specs.grammar.Grammar.{KINDS, agree, padded}
use Rattle.line.specs.grammar.Kinds.{number, same, words}

pub same_self : (k : Kind) → same k k ≡ true
same_self End = refl
same_self k = refl

pub same_equal : (a b : Kind) → a ≡ b → same a b ≡ true
same_equal a b e = rw e (same_self b)

not_true : (b : Bool) → (b ≡ true → ⊥) → b ≡ false
not_true true n = absurd (n refl)
not_true false n = refl

-- two kinds whose numbers are one are one kind: the list of all of them has it at that place
pub same_one : (a b : Kind) → same a b ≡ true → a ≡ b
same_one a b e = sym (back a) ∙ ap (λ (n : ℕ). get_or all n End) (eqb-true (number a) (number b) e) ∙ back b
  where
    all : List Kind
    all = End ∷ words ++ Number ∷ Negative ∷ Amount ∷ Fraction ∷ Name ∷ Other ∷ Large ∷ Statement ∷ Rule ∷ SignedWord ∷ ShorterLine ∷ []

    back : (k : Kind) → get_or all (number k) End ≡ k
    back End = refl
    back k = refl

pub not_same : (a b : Kind) → (a ≡ b → ⊥) → same a b ≡ false
not_same a b n = not_true (same a b) (λ e. n (same_one a b e))

-- a row past the last has no kind
pub no_row : (rs : List (List Kind)) (i : ℕ) → length rs ≤ i → padded KINDS [] ≡ get_or rs i (padded KINDS [])
no_row rs i h = sym (get_or-eq_default rs (padded KINDS []) {n = i} h)

-- rows that differ at one of the first kinds do not agree in these
pub differ : (a b : List Kind) (n i : ℕ) → i < n → same (get_or a i End) (get_or b i End) ≡ false → agree a b n ≡ false
unfolding agree
differ a b zero i h e = absurd (omega arith)
differ a b (suc n) i h e = go (ℕ_discrete i n) (λ l. differ a b n i l e)
  where
    fails : (x y : Bool) → (x ≡ false) ⊎ (y ≡ false) → (x && y) ≡ false
    fails x y (inl e) = rw e
    fails true y (inr e) = e
    fails false y (inr e) = refl

    go : Dec (i ≡ n) → (i < n → agree a b n ≡ false) → (same (get_or a n End) (get_or b n End) && agree a b n) ≡ false
    go (yes s) later = fails _ _ (inl (subst (λ (k : ℕ). same (get_or a k End) (get_or b k End) ≡ false) s e))
    go (no s) later = fails _ _ (inr (later (omega arith)))

-- and those that are the same at one more kind agree in one more
pub one_more : (a b : List Kind) (n : ℕ) → get_or a n End ≡ get_or b n End → agree a b n ≡ true → agree a b (n + 1) ≡ true
unfolding agree
one_more a b n e h = rw (add-one n, e, same_self (get_or b n End)) h

pub ruleset wanted = (same_self, not_same, eq-eqb, ne_eqb, le-leb, le-ltb, lt-leb, lt-ltb)
