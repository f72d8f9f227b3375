-- `put` meets its contract: the fourteen numbers stored are the row's. Assumes nothing.
use Rattle.std.proofs.Common.{◌≡◌, ℕ, Bool, true, false, cond, List, [], ◌∷◌, set, refl, ap₂, arith}
use mir.Val.{bool_byte}
use Rattle.word.proofs.Cut.{wrapped_back}
use Rattle.rule.specs.declared.Rule.{Rule}
use Rattle.rule.specs.declared.band.Band.{Band}
use Rattle.search.specs.rows.route.Rows.{row_of}
use Rattle.search.proofs.rows.Reading.{far_so}
use Rattle.search.proofs.rows.put.Goals as goal

-- the row that the code stores, by how far its band goes and the number of its side
abbrev sided : Rule → Band → (far side : ℕ) → List ℕ
sided r b far side =
    r.form ∷ r.sense ∷ r.c1 ∷ r.c2 ∷ b.from ∷ far ∷ side ∷ 0 ∷ 0 ∷ 0 ∷ 0 ∷ 0 ∷ 0 ∷ 0 ∷ []

number : (v : Bool) → bool_byte v ≡ cond v 1 0
number true = refl
number false = refl

pub returns : goal.returns
unfolding row_of
returns c =
    ap₂ (λ (far side : ℕ). set c.args.rows.now c.args.i (sided c.args.rule c.args.band far side))
    (far_so c.args.band.from c.args.band.to _ (omega arith) (omega arith) (wrapped_back c.args.band.to c.args.band.from (omega arith) (omega arith))) (number c.args.band.inside)
