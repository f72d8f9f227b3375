-- A list overwritten element by element: by the elements of another, or by one that is always the same. By where the last store falls.
-- Assumes nothing.
use Rattle.std.proofs.Common.{◌≡◌, ℕ, zero, suc, ◌+◌, ◌-◌, ◌<◌, ◌≤◌, List, [], ◌∷◌, ◌++◌, length, get_or, take, drop, set, replicate, sym, refl, ap, ◌∙◌, subst, ap₂, append_assoc, add-one, arith, length-append, drop_of_length-le, length-take-le, take_all, drop-cons, take-suc}
use lib.ListN.{length-replicate}
use lib.Seq.{set_at}

-- one element more is copied from l
pub copied : {A : Type 0} (l m : List A) (i : ℕ) (d : A) → i < length l → i < length m
    → set (take i l ++ drop i m) i (get_or l i d) ≡ take (suc i) l ++ drop (suc i) m
copied l m i d h k =
    ap (λ (x : List _). set (take i l ++ x) i (get_or l i d)) (drop-cons m i d k)
    ∙ set_at (take i l) (get_or m i d) (drop (suc i) m) (get_or l i d) i (length-take-le i l (omega arith))
    ∙ sym (ap (λ (x : List _). x ++ drop (suc i) m) (take-suc l i d h) ∙ append_assoc (take i l) (get_or l i d ∷ []) (drop (suc i) m))

replicate_more : {A : Type 0} (k : ℕ) (z : A) (ys : List A) → replicate k z ++ z ∷ ys ≡ replicate (suc k) z ++ ys
replicate_more zero z ys = refl
replicate_more (suc k) z ys = ap (λ (l : List _). z ∷ l) (replicate_more k z ys)

cleared_by : {A : Type 0} (l : List A) (n k : ℕ) (z : A) → n + k < length l
    → set (take n l ++ (replicate k z ++ drop (n + k) l)) (n + k) z ≡ take n l ++ (replicate (suc k) z ++ drop (suc (n + k)) l)
cleared_by l n k z h =
    ap (λ (x : List _). set (take n l ++ (replicate k z ++ x)) (n + k) z) (drop-cons l (n + k) z h)
    ∙ ap (λ (x : List _). set x (n + k) z) (sym (append_assoc (take n l) (replicate k z) (get_or l (n + k) z ∷ drop (suc (n + k)) l)))
    ∙ set_at (take n l ++ replicate k z) (get_or l (n + k) z) (drop (suc (n + k)) l) z (n + k)
    (length-append (take n l) (replicate k z) ∙ ap₂ ◌+◌ (length-take-le n l (omega arith)) (length-replicate k z))
    ∙ append_assoc (take n l) (replicate k z) (z ∷ drop (suc (n + k)) l)
    ∙ ap (λ (x : List _). take n l ++ x) (replicate_more k z (drop (suc (n + k)) l))

-- one element more is z
pub cleared : {A : Type 0} (l : List A) (n i : ℕ) (z : A) → n ≤ i → i < length l
    → set (take n l ++ (replicate (i - n) z ++ drop i l)) i z ≡ take n l ++ (replicate (i + 1 - n) z ++ drop (i + 1) l)
cleared l n i z low high =
    let e : n + (i - n) ≡ i = omega arith in
    let size : suc (i - n) ≡ i + 1 - n = omega arith in
    subst (λ (j : ℕ). set (take n l ++ (replicate (i - n) z ++ drop j l)) j z ≡ take n l ++ (replicate (suc (i - n)) z ++ drop (suc j) l)) e
    (cleared_by l n (i - n) z (omega arith))
    ∙ ap₂ (λ (a b : ℕ). take n l ++ (replicate a z ++ drop b l)) size (sym (add-one i))

nothing_more : {A : Type 0} (l : List A) → l ++ [] ≡ l
nothing_more [] = refl
nothing_more (x ∷ l) = ap (λ (m : List _). x ∷ m) (nothing_more l)

-- all are copied
pub all_copied : {A : Type 0} (l m : List A) (i : ℕ) → length l ≤ i → length m ≤ i → take i l ++ drop i m ≡ l
all_copied l m i h k = ap₂ ◌++◌ (take_all i l h) (drop_of_length-le m {i = i} k) ∙ nothing_more l
