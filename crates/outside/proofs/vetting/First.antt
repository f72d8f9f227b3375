-- The rules looked at: a list laid over places that have none begins as the list does. What the batch answers, in numbers. Assumes nothing.
use mathlib.Core.Path.{◌≡◌, refl, ap, ap₂, ◌∙◌}
use mathlib.Core.List.{List, [], ◌∷◌, ◌++◌}
use Prim.Native.Nat.{ℕ, zero, suc, ◌≤◌}
use native.Mathlib.Numerals.{unary_clauses}
use native.Mathlib.Omega.{arith}
use lib.ListN.{length, length-replicate, replicate, take}
use Rattle.std.proofs.lemmas.List.{drop-replicate, length-take}
use Rattle.rule.specs.declared.Rule.{Rule}
use Rattle.page.specs.declared.Opening.{Opening}
use Rattle.page.specs.Page.{padded}
use Rattle.batch.specs.declared.course.Batch.{Batch}
use Rattle.batch.specs.course.Batch.{Batched}
use Rattle.outside.specs.net_words.Laid.{laid_over}
use Rattle.outside.specs.vetting.Vetted.{Vetted, vet_numbers}

-- what is laid over places of one value is the list, filled up with it
pub filled : {A : Type 0} (n : ℕ) (z : A) (us : List A) → laid_over us (replicate n z) ≡ padded n z (take n us)
unfolding laid_over
filled n z us =
    let many = length-replicate n z in
    ap₂ ◌++◌ (ap (λ (k : ℕ). take k us) many)
    (drop-replicate (length us) n z ∙ ap (λ (k : ℕ). replicate k z) (omega (arith, length-take n us)))

-- the copy begins as the list does
pub as_read : {A : Type 0} (k n : ℕ) (z : A) (us : List A) → k ≤ n → k ≤ length us → take k (padded n z (take n us)) ≡ take k us
as_read zero n z us l h = refl
as_read (suc k) zero z us l h = absurd (omega arith)
as_read (suc k) (suc n) z [] l h = absurd (omega arith)
as_read {A} (suc k) (suc n) z (u ∷ us) l h = simp unary_clauses (ap (λ (l : List A). u ∷ l) (as_read k n z us (omega arith) (omega arith)))

pub vetted : {g : Opening} {us : List Rule} {b b' : List ℕ} (a : Batch) → Batched g us b b' a → Vetted g us b b' (vet_numbers a) a.reply.number
vetted a p = record { number = ap (λ (x : Batch). x.reply.number) p.answers; answer = ap vet_numbers p.answers; links = p.writes }
