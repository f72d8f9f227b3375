-- The chain before K8, and what it and the chain have in common.
use Rattle.std.specs.Prelude.{◌≡◌, List, map, ℕ, ◌^◌, length}
use Rattle.word.specs.Word.{top}
use Rattle.rule.specs.declared.Rule.{Rule}
use Rattle.chain.specs.declared.Link.{Link}
use Rattle.chain.specs.Links.{furthest, gap, go_on, link_by}

-- the link at p, which starts there whatever it names
unfoldable pub old_link_at : ℕ → List Rule → ℕ → Link
old_link_at w rs p = link_by (λ (i : ℕ). p) p (gap w rs p) (furthest w rs p)

unfoldable pub old_links : ℕ → List Rule → List Link
old_links w rs = go_on (old_link_at w rs) (top w) (2 ^ w) 0

-- as many links, with the same ends and reasons
pub record Alike (ls ms : List Link) : Type 0 where
  pub number : length ls ≡ length ms
  pub ends : map (λ (l : Link). l.to) ls ≡ map (λ (l : Link). l.to) ms
  pub reasons : map (λ (l : Link). l.reason) ls ≡ map (λ (l : Link). l.reason) ms
