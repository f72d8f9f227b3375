-- What the desk says of a sheet: what it keeps, and for "none" the chain.
use Rattle.std.specs.Prelude.{true, false, List, [], ℕ, eqb}
use Rattle.rule.specs.declared.Rule.{Rule}
use Rattle.search.specs.declared.verdict.Kept.{Kept}
use Rattle.search.specs.verdict.Kept.{kept}
use Rattle.chain.specs.declared.Link.{Link}
use Rattle.chain.specs.Links.{links}

pub record Findings : Type 0 where
  pub kept : Kept
  pub chain : List Link

abbrev pub says : Kept → List Link → Findings
says k ls = record { kept = k; chain = ls }

-- "It is written for "none" only."
unfoldable pub chain_for : ℕ → List Rule → Kept → List Link
chain_for w rs k = elim (eqb k.verdict 0) [ true ↦ links w rs | false ↦ [] ]

unfoldable pub findings : ℕ → List Rule → Findings
findings w rs = let k = kept w rs in says k (chain_for w rs k)
