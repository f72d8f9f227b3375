-- The numbers of the rules that a word fails, one rule more at a time: each rule adds its own number or nothing, and so at most one.
-- Assumes nothing.
use mathlib.Core.Path.{◌≡◌, refl, sym, ap, ap₂, ◌∙◌}
use mathlib.Core.Bool.{Bool, true, false, cond}
use mathlib.Core.List.{List, [], ◌∷◌, ◌++◌, append_assoc, append-nil}
use Prim.Native.Nat.{ℕ, zero, suc, ◌+◌, ◌≤◌, ◌<◌}
use native.Mathlib.Numerals.{add-one}
use native.Mathlib.Omega.{arith}
use lib.ListN.{drop, get_or, length, length-append, set, take}
use lib.Seq.{drop-cons, length-take-le, set_at, take-suc}
use Rattle.rule.specs.declared.Rule.{Rule}
use Rattle.rule.specs.Meaning.{AllLawful, Lawful, meets}
use Rattle.rule.specs.accept.Accept.{no_rule}
use Rattle.counting.specs.fitting.Words.{at_start}
use Rattle.listing.specs.failed_rules.Failed.{failed}

-- the number of one rule, or nothing
abbrev pub one : Bool → ℕ → List ℕ
one met i = cond met [] (i ∷ [])

failed_more : (w x i : ℕ) (rs : List Rule) (r : Rule) → failed w x i (rs ++ r ∷ []) ≡ failed w x i rs ++ one (meets w r x) (i + length rs)
unfolding failed
failed_more w x i [] r = go (meets w r x)
  where
    go : (m : Bool) → cond m [] (i ∷ []) ≡ one m (i + 0)
    go true = refl
    go false = let e : i ≡ i + 0 = omega arith in ap (λ (k : ℕ). k ∷ []) e
failed_more w x i (s ∷ rs) r = go (meets w s x) (failed_more w x (suc i) rs r)
  where
    go : (m : Bool) → failed w x (suc i) (rs ++ r ∷ []) ≡ failed w x (suc i) rs ++ one (meets w r x) (suc i + length rs)
        → cond m (failed w x (suc i) (rs ++ r ∷ [])) (i ∷ failed w x (suc i) (rs ++ r ∷ []))
        ≡ cond m (failed w x (suc i) rs) (i ∷ failed w x (suc i) rs) ++ one (meets w r x) (i + suc (length rs))
    go true e =
        let n : suc i + length rs ≡ i + suc (length rs) = omega arith in
        e ∙ ap (λ (k : ℕ). failed w x (suc i) rs ++ one (meets w r x) k) n
    go false e =
        let n : suc i + length rs ≡ i + suc (length rs) = omega arith in
        ap (λ (l : List ℕ). i ∷ l) (e ∙ ap (λ (k : ℕ). failed w x (suc i) rs ++ one (meets w r x) k) n)

failed_few : (w x i : ℕ) (rs : List Rule) → length (failed w x i rs) ≤ length rs
unfolding failed
failed_few w x i [] = omega arith
failed_few w x i (r ∷ rs) = go (meets w r x) (failed_few w x (suc i) rs)
  where
    go : (m : Bool) → length (failed w x (suc i) rs) ≤ length rs → length (cond m (failed w x (suc i) rs) (i ∷ failed w x (suc i) rs)) ≤ suc (length rs)
    go true h = omega arith
    go false h = omega arith

few_taken : {A : Type 0} (i : ℕ) (l : List A) → length (take i l) ≤ i
few_taken zero l = omega arith
few_taken (suc i) [] = omega arith
few_taken (suc i) (x ∷ l) = omega (arith, few_taken i l)

-- of the first i rules a word fails at most i
pub few_failed : (w x i : ℕ) (rs : List Rule) → length (failed w x 0 (take i rs)) ≤ i
few_failed w x i rs = omega (arith, failed_few w x 0 (take i rs), few_taken i rs)

-- the next rule
pub next_failed : (w x i : ℕ) (rs : List Rule) → i < length rs
    → failed w x 0 (take (i + 1) rs) ≡ failed w x 0 (take i rs) ++ one (meets w (get_or rs i no_rule) x) i
next_failed w x i rs h =
    let size : 0 + length (take i rs) ≡ i = omega (arith, length-take-le i rs (omega arith)) in
    ap (λ (n : ℕ). failed w x 0 (take n rs)) (add-one i)
    ∙ ap (failed w x 0) (take-suc rs i no_rule h)
    ∙ failed_more w x 0 (take i rs) (get_or rs i no_rule)
    ∙ ap (λ (n : ℕ). failed w x 0 (take i rs) ++ one (meets w (get_or rs i no_rule) x) n) size

-- a number stored after those that stand at the start
put_one : (b xs : List ℕ) (v : ℕ) → length xs < length b → set (at_start xs b) (length xs) v ≡ at_start (xs ++ v ∷ []) b
put_one b xs v h =
    let e : suc (length xs) ≡ length (xs ++ v ∷ []) = omega (arith, length-append xs (v ∷ [])) in
    ap (λ (l : List ℕ). set (xs ++ l) (length xs) v) (drop-cons b (length xs) 0 h)
    ∙ set_at xs (get_or b (length xs) 0) (drop (suc (length xs)) b) v (length xs) refl
    ∙ sym (append_assoc xs (v ∷ []) (drop (suc (length xs)) b))
    ∙ ap (λ (n : ℕ). (xs ++ v ∷ []) ++ drop n b) e

-- a rule that the word meets adds nothing, and one that it fails its number
module _ (b xs : List ℕ) (i : ℕ) (m : Bool) {ys out : List ℕ} {n : ℕ} (more : ys ≡ xs ++ one m i) (size : n ≡ length xs) (so : out ≡ at_start xs b) where
  pub met : m ≡ true → (n ≡ length ys) × (out ≡ at_start ys b)
  met e =
      let same : ys ≡ xs = more ∙ ap (λ (t : Bool). xs ++ one t i) e ∙ append-nil xs in
      (size ∙ ap length (sym same), so ∙ ap (λ (l : List ℕ). at_start l b) (sym same))

  pub missed : m ≡ false → length xs < length b → (n + 1 ≡ length ys) × (set out n i ≡ at_start ys b)
  missed e h =
      let same : ys ≡ xs ++ i ∷ [] = more ∙ ap (λ (t : Bool). xs ++ one t i) e in (
        omega (arith, size, ap length same, length-append xs (i ∷ [])),
        ap₂ (λ (l : List ℕ) (k : ℕ). set l k i) so size ∙ put_one b xs i h ∙ ap (λ (l : List ℕ). at_start l b) (sym same),
      )

-- each of lawful rules is lawful
pub lawful_at : (w : ℕ) (rs : List Rule) (i : ℕ) → i < length rs → AllLawful w rs → Lawful w (get_or rs i no_rule)
unfolding AllLawful
lawful_at w [] i k l = absurd (omega arith)
lawful_at w (r ∷ rs) zero k l = l.0
lawful_at w (r ∷ rs) (suc i) k l = lawful_at w rs i (omega arith) l.1
