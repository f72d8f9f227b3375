-- `put_form` meets its contract: each arm has its row, and the rows without an arm are those with two numbers. Assumes nothing.
use mathlib.Core.Path.{◌≡◌, refl, sym, ap}
use mathlib.Core.Bool.{cond}
use mathlib.Core.List.{[]}
use Prim.Native.Nat.{ℕ, zero, suc}
use native.Mathlib.Omega.{arith}
use lib.ListN.{get_or, length, length-append}
use Rattle.rule.specs.declared.Rule.{Rule}
use Rattle.digits.specs.hexadecimal.Text.{bytes_of}
use Rattle.digits.specs.phrase.Phrase.{signedly}
use Rattle.digits.proofs.phrase.Putting.{put_as, put_length, put_then}
use Rattle.wording.specs.form_rows.Forms.{form_text, forms}
use Rattle.wording.specs.form_rows.route.Pairs.{of_two, pair_text}
use Rattle.wording.proofs.forms.put_form.Goals as goal

row : (w : ℕ) (r : Rule) (k : ℕ) → r.form ≡ k → form_text w r ≡ get_or (forms w r.c1 r.c2) k []
unfolding form_text
row w r k e = ap (λ (f : ℕ). get_or (forms w r.c1 r.c2) f []) e

-- the rows at k with two numbers, and those past the table, look at no width
no_width : (w c1 c2 k : ℕ) → (k ≡ 4 → ⊥) → (k ≡ 5 → ⊥) → (k ≡ 6 → ⊥) → get_or (forms w c1 c2) k [] ≡ cond (of_two k) (get_or (forms 0 c1 c2) k []) []
no_width w c1 c2 zero a b d = refl
no_width w c1 c2 (suc zero) a b d = refl
no_width w c1 c2 (suc (suc zero)) a b d = refl
no_width w c1 c2 (suc (suc (suc zero))) a b d = refl
no_width w c1 c2 (suc (suc (suc (suc zero)))) a b d = absurd (a refl)
no_width w c1 c2 (suc (suc (suc (suc (suc zero))))) a b d = absurd (b refl)
no_width w c1 c2 (suc (suc (suc (suc (suc (suc zero)))))) a b d = absurd (d refl)
no_width w c1 c2 (suc (suc (suc (suc (suc (suc (suc zero))))))) a b d = refl
no_width w c1 c2 (suc (suc (suc (suc (suc (suc (suc (suc zero)))))))) a b d = refl
no_width w c1 c2 (suc (suc (suc (suc (suc (suc (suc (suc (suc k))))))))) a b d = refl

pair_is : (w : ℕ) (r : Rule) → (r.form ≡ 4 → ⊥) → (r.form ≡ 5 → ⊥) → (r.form ≡ 6 → ⊥) → form_text w r ≡ pair_text r
unfolding form_text pair_text
pair_is w r a b d = no_width w r.c1 r.c2 r.form a b d

pub put_text-from-requires : goal.put_text-from-requires
unfolding bytes_of
put_text-from-requires c =
    let e = row c.args.width.bits c.args.rule 4 c.in-4.is in
    omega (arith, ap length e)

pub put_signed-requires : goal.put_signed-requires
unfolding bytes_of
put_signed-requires c =
    let e = row c.args.width.bits c.args.rule 4 c.in-4.is in record { width = c.requires.width; a_in_bounds = omega (arith, ap length e, put_length c.put_text-from.ensures, c.put_text-from.ensures.1) }

pub put_signed-from-requires : goal.put_signed-from-requires
unfolding bytes_of
put_signed-from-requires c =
    let e = row c.args.width.bits c.args.rule 5 c.in-5.is in record { width = c.requires.width; a_in_bounds = omega (arith, ap length e, length-append (signedly c.args.width.bits c.args.rule.c1) (bytes_of " <= signed x")) }

pub put_text-requires : goal.put_text-requires
unfolding bytes_of
put_text-requires c =
    let e = row c.args.width.bits c.args.rule 5 c.in-5.is in
    omega (arith, ap length e, length-append (signedly c.args.width.bits c.args.rule.c1) (bytes_of " <= signed x"), put_length c.put_signed-from.ensures, c.put_signed-from.ensures.1)

pub put_one-requires : goal.put_one-requires
unfolding bytes_of
put_one-requires c =
    let e = row c.args.width.bits c.args.rule 6 c.in-6.is in
    omega (arith, ap length e)

pub put_pair-requires : goal.put_pair-requires
put_pair-requires c =
    omega (arith, ap length (pair_is c.args.width.bits c.args.rule (omega arith) (omega arith) (omega arith)))

pub returns-in-4 : goal.returns-in-4
unfolding bytes_of
returns-in-4 c =
    let e = row c.args.width.bits c.args.rule 4 c.in-4.is in
    put_as (sym e) (put_then c.put_text-from.ensures c.put_signed.ensures)

pub returns-in-5 : goal.returns-in-5
unfolding bytes_of
returns-in-5 c =
    let e = row c.args.width.bits c.args.rule 5 c.in-5.is in
    put_as (sym e) (put_then c.put_signed-from.ensures c.put_text.ensures)

pub returns-in-6 : goal.returns-in-6
unfolding bytes_of
returns-in-6 c =
    let e = row c.args.width.bits c.args.rule 6 c.in-6.is in
    put_as (sym e) c.put_one.ensures

pub returns-in_default : goal.returns-in_default
returns-in_default c =
    put_as (sym (pair_is c.args.width.bits c.args.rule (omega arith) (omega arith) (omega arith))) c.put_pair.ensures
