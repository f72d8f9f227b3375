-- `join` meets its contract: what the rows stand for is joined, and the answer is written down. Assumes nothing.
use mathlib.Core.Path.{◌≡◌, ap, ◌∙◌}
use mathlib.Core.List.{[], ◌∷◌}
use Rattle.span.specs.declared.Joined.{Joined}
use Rattle.span.specs.Join.{joined}
use Rattle.outside.specs.handing.Handed.{number_of}
use Rattle.outside.proofs.handing.Rows.{as_number}
use Rattle.outside.specs.on_words.Joins.{join_in, join_rows}
use Rattle.outside.proofs.on_words.joins.join.Goals as goal

pub returns : goal.returns
unfolding join_in
returns c =
    let e : c.join-said.result ≡ _ =
    c.join-said.ensures
    ∙ (λ k. joined c.args.width (c.op_of.ensures k) (c.interval_in.ensures k) (c.interval_in-2.ensures k) (c.interval_in-3.ensures k))
    in record {
      value = ap (λ (r : Joined). r.number) e;
      words_after = (λ k. c.row_of.ensures k ∷ c.row_of-2.ensures k ∷ c.row_of-3.ensures k ∷ []) ∙ ap join_rows e;
      empty_after = as_number c.join-said.result.empty ∙ ap (λ (r : Joined). number_of r.empty) e;
    }
