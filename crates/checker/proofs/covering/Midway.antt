-- How many words are covered before a link, and the link at a place of a list of numbers. Assumes nothing.
use mathlib.Core.Path.{◌≡◌, ap, ◌∙◌}
use mathlib.Core.Bool.{Bool, cond}
use mathlib.Core.List.{List, ◌∷◌}
use Prim.Native.Nat.{ℕ, suc, ◌+◌, ◌≤◌}
use native.Mathlib.Omega.{arith}
use borrow.Author.Tests.{eq-eqb, ne_eqb}
use lib.ListN.{drop, get_or, length}
use lib.Seq.{drop-cons}
use Rattle.chain.specs.Links.{link_from}
use Rattle.checker.specs.covering.Check.{links_in}
use Rattle.checker.specs.covering.route.Route.{covered}

-- ---- how many words are covered

pub covered_none : (i e : ℕ) → i ≡ 0 → covered i e ≡ 0
unfolding covered
covered_none i e z = ap (λ (b : Bool). cond b 0 (suc e)) (eq-eqb i 0 z)

pub covered_some : (i e : ℕ) → (i ≡ 0 → ⊥) → covered i e ≡ suc e
unfolding covered
covered_some i e z = ap (λ (b : Bool). cond b 0 (suc e)) (ne_eqb i 0 z)

-- ---- the link at a place

pub next_link : (ns : List ℕ) (i : ℕ) → i + 3 ≤ length ns → links_in (drop i ns) ≡ link_from ns i ∷ links_in (drop (i + 3) ns)
unfolding links_in
next_link ns i h =
    let one : suc i ≡ i + 1 = omega arith in
    let two : suc (i + 1) ≡ i + 2 = omega arith in
    let three : suc (i + 2) ≡ i + 3 = omega arith in
    ap links_in
    (drop-cons ns i 0 (omega arith)
    ∙ ap (λ (l : List ℕ). get_or ns i 0 ∷ l)
    (ap (λ (k : ℕ). drop k ns) one
    ∙ drop-cons ns (i + 1) 0 (omega arith)
    ∙ ap (λ (l : List ℕ). get_or ns (i + 1) 0 ∷ l)
    (ap (λ (k : ℕ). drop k ns) two
    ∙ drop-cons ns (i + 2) 0 (omega arith)
    ∙ ap (λ (k : ℕ). get_or ns (i + 2) 0 ∷ drop k ns) three)))
