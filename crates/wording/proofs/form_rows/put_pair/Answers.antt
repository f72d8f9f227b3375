-- `put_pair` meets its contract: each arm has its row, and a form without an arm has none here. Assumes nothing.
use mathlib.Core.Path.{◌≡◌, refl, sym, ap}
use mathlib.Core.Bool.{cond}
use mathlib.Core.List.{[]}
use Prim.Native.Nat.{ℕ, zero, suc}
use native.Mathlib.Omega.{arith}
use lib.ListN.{get_or, length}
use Rattle.rule.specs.declared.Rule.{Rule}
use Rattle.digits.specs.hexadecimal.Text.{bytes_of}
use Rattle.digits.proofs.phrase.Putting.{put_as, put_nothing}
use Rattle.wording.specs.form_rows.Forms.{form_text, forms}
use Rattle.wording.specs.form_rows.route.Pairs.{of_two, pair_text}
use Rattle.wording.proofs.form_rows.put_pair.Goals as goal

row : (r : Rule) (k : ℕ) → r.form ≡ k → pair_text r ≡ cond (of_two k) (get_or (forms 0 r.c1 r.c2) k []) []
unfolding pair_text form_text
row r k e = ap (λ (f : ℕ). cond (of_two f) (get_or (forms 0 r.c1 r.c2) f []) []) e

no_row : (r : Rule) (k : ℕ) → r.form ≡ k → (k ≡ 1 → ⊥) → (k ≡ 2 → ⊥) → (k ≡ 3 → ⊥) → (k ≡ 7 → ⊥) → (k ≡ 8 → ⊥) → pair_text r ≡ []
no_row r zero e a b c d f = row r 0 e
no_row r (suc zero) e a b c d f = absurd (a refl)
no_row r (suc (suc zero)) e a b c d f = absurd (b refl)
no_row r (suc (suc (suc zero))) e a b c d f = absurd (c refl)
no_row r (suc (suc (suc (suc zero)))) e a b c d f = row r 4 e
no_row r (suc (suc (suc (suc (suc zero))))) e a b c d f = row r 5 e
no_row r (suc (suc (suc (suc (suc (suc zero)))))) e a b c d f = row r 6 e
no_row r (suc (suc (suc (suc (suc (suc (suc zero))))))) e a b c d f = absurd (d refl)
no_row r (suc (suc (suc (suc (suc (suc (suc (suc zero)))))))) e a b c d f = absurd (f refl)
no_row r (suc (suc (suc (suc (suc (suc (suc (suc (suc k))))))))) e a b c d f = row r _ e

pub put_two-requires : goal.put_two-requires
unfolding bytes_of
put_two-requires c =
    let e = row c.args.rule 1 c.in-1.is in
    omega (arith, ap length e)

pub put_two-requires-in-2 : goal.put_two-requires-in-2
unfolding bytes_of
put_two-requires-in-2 c =
    let e = row c.args.rule 2 c.in-2.is in
    omega (arith, ap length e)

pub put_two-requires-in-3 : goal.put_two-requires-in-3
unfolding bytes_of
put_two-requires-in-3 c =
    let e = row c.args.rule 3 c.in-3.is in
    omega (arith, ap length e)

pub put_two-requires-in-7 : goal.put_two-requires-in-7
unfolding bytes_of
put_two-requires-in-7 c =
    let e = row c.args.rule 7 c.in-7.is in
    omega (arith, ap length e)

pub put_two-requires-in-8 : goal.put_two-requires-in-8
unfolding bytes_of
put_two-requires-in-8 c =
    let e = row c.args.rule 8 c.in-8.is in
    omega (arith, ap length e)

pub returns-in-1 : goal.returns-in-1
unfolding bytes_of
returns-in-1 c =
    let e = row c.args.rule 1 c.in-1.is in
    put_as (sym e) c.put_two.ensures

pub returns-in-2 : goal.returns-in-2
unfolding bytes_of
returns-in-2 c =
    let e = row c.args.rule 2 c.in-2.is in
    put_as (sym e) c.put_two-in-2.ensures

pub returns-in-3 : goal.returns-in-3
unfolding bytes_of
returns-in-3 c =
    let e = row c.args.rule 3 c.in-3.is in
    put_as (sym e) c.put_two-in-3.ensures

pub returns-in-7 : goal.returns-in-7
unfolding bytes_of
returns-in-7 c =
    let e = row c.args.rule 7 c.in-7.is in
    put_as (sym e) c.put_two-in-7.ensures

pub returns-in-8 : goal.returns-in-8
unfolding bytes_of
returns-in-8 c =
    let e = row c.args.rule 8 c.in-8.is in
    put_as (sym e) c.put_two-in-8.ensures

pub returns-in_default : goal.returns-in_default
returns-in_default c =
    put_as (sym (no_row c.args.rule c.args.rule.form refl (omega arith) (omega arith) (omega arith) (omega arith) (omega arith))) (put_nothing c.args.out.now c.args.at)
