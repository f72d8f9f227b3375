-- `put_note` meets its contract: the seven numbers of rule and band are read, and stored again with those of the note. Assumes nothing.
use mathlib.Core.Path.{◌≡◌, refl, sym, ap, ◌∙◌}
use mathlib.Core.List.{List, [], ◌∷◌}
use Prim.Native.Nat.{ℕ, ◌-◌}
use lib.ListN.{get_or, set}
use Rattle.rule.specs.declared.bits.Fixed.{Fixed}
use Rattle.rule.specs.declared.bits.Fixed.TheVariants.{Bits, Clash}
use Rattle.search.specs.noting.route.Note.{fixed_out, noting, with_note}
use Rattle.search.proofs.noting.InRow.{noting_in}
use Rattle.search.proofs.noting.put_note.Goals as goal

-- the three numbers of the bits, one by one
three : (f : Fixed) → get_or (fixed_out f) 0 0 ∷ get_or (fixed_out f) 1 0 ∷ get_or (fixed_out f) 2 0 ∷ [] ≡ fixed_out f
unfolding fixed_out
three (Bits m v) = refl
three Clash = refl

pub returns-then-n-eq0 : goal.returns-then-n-eq0
unfolding noting
returns-then-n-eq0 c = sym (ap (noting c.args.kept c.args.fixed c.args.rows.now) c.if-n-eq0.true)

pub returns : goal.returns
unfolding with_note
returns c =
    let row = get_or c.args.rows.now (c.args.n - 1) [] in
    ap (λ (bits : List ℕ). set c.args.rows.now (c.args.n - 1) (get_or row 0 0 ∷ get_or row 1 0 ∷ get_or row 2 0 ∷ get_or row 3 0 ∷ get_or row 4 0 ∷ get_or row 5 0 ∷ get_or row 6 0 ∷ 1 ∷ c.args.kept.verdict ∷ c.args.kept.smallest ∷ c.args.kept.largest ∷ bits))
    (ap (λ (b : List ℕ). get_or b 0 0 ∷ get_or b 1 0 ∷ get_or b 2 0 ∷ []) c.fixed_out-bits.ensures ∙ three c.args.fixed)
    ∙ noting_in c.args.kept c.args.fixed c.args.rows.now c.args.n c.if-n-eq0.false
