-- The chain, step by step (01, "The chain").
use Rattle.std.specs.Prelude.{Bool, true, false, not, ◌&&◌, cond, List, [], ◌∷◌, ℕ, zero, suc, ◌+◌, ◌-◌, ◌*◌, ◌^◌, eqb, ltb, get_or}
use Rattle.std.specs.Prelude.{Option}
use Rattle.std.specs.Prelude.{Some, None}
use Rattle.word.specs.Word.{top}
use Rattle.word.specs.Search.{first}
use Rattle.rule.specs.declared.Rule.{Rule}
use Rattle.rule.specs.Meaning.{meets, meets7, reach, rule, start}
use Rattle.chain.specs.declared.Far.{Far}
use Rattle.chain.specs.declared.Far.TheVariants.{To, Nowhere}
use Rattle.chain.specs.declared.Link.{Link}

-- a link by its numbers: the words from one to another, and why they fail, a rule's number or 255
abbrev pub link : (from to reason : ℕ) → Link
link from to reason = record { from = from; to = to; reason = reason }

-- the reason of a link whose words fail a form 7 rule
abbrev pub BITS : ℕ
BITS = 255

-- rule number i
abbrev pub nth : List Rule → ℕ → Rule
nth rs i = get_or rs i (rule 0 0 0 0)

-- "If p fails a rule that isn't of form 7"
unfoldable pub blocks : ℕ → Rule → ℕ → Bool
blocks w r p = not (eqb r.form 7) && not (meets w r p)

-- "Take the rule of furthest reach, the lowest number on a tie": a later rule has to reach further
unfoldable pub further : Far → (q i : ℕ) → Far
further Nowhere q i = To q i
further (To best rule) q i = cond (ltb best q) (To q i) (To best rule)

-- the furthest reach from p among a best so far and the rules, which are numbered from i
unfoldable pub furthest_of : ℕ → Far → ℕ → List Rule → ℕ → Far
furthest_of w best i [] p = best
furthest_of w best i (r ∷ rs) p =
    furthest_of w (elim (blocks w r p) [ true ↦ further best (reach w r p) i | false ↦ best ]) (suc i) rs p

-- the rule of furthest reach from p, if p fails any outside form 7
unfoldable pub furthest : ℕ → List Rule → ℕ → Far
furthest w rs p = furthest_of w Nowhere 0 rs p

-- "q is one less than the smallest word above p that meets all form 7 rules, or the top word if there is none"
unfoldable pub before : (t : ℕ) → Option ℕ → ℕ
before t (Some x) = x - 1
before t None = t

unfoldable pub gap : ℕ → List Rule → ℕ → ℕ
gap w rs p = before (top w) (first (meets7 w rs) (top w - p) (suc p))

-- the link at p: the furthest reach with its rule's number, or where there is none the gap with 255. Where a link starts that names
-- rule number i is handed in; the others start at p.
unfoldable pub link_by : (starts : ℕ → ℕ) → (p gap : ℕ) → Far → Link
link_by starts p g (To q i) = link (starts i) q i
link_by starts p g Nowhere = link p g BITS

-- "each link that names a rule to start where that rule's run of failing words starts" (K8)
unfoldable pub link_at : ℕ → List Rule → ℕ → Link
link_at w rs p = link_by (λ (i : ℕ). start w (nth rs i) p) p (gap w rs p) (furthest w rs p)

-- "Stop after the link that ends at the top word; else go on with p = q + 1": at most k links from p on, each the one at its word
unfoldable pub go_on : (at : ℕ → Link) → (t k p : ℕ) → List Link
go_on at t zero p = []
go_on at t (suc k) p = let l = at p in l ∷ elim (eqb l.to t) [ true ↦ [] | false ↦ go_on at t k (suc l.to) ]

unfoldable pub links_from : ℕ → List Rule → (k p : ℕ) → List Link
links_from w rs k p = go_on (link_at w rs) (top w) k p

-- "Start at p = 0." A link has at least one word, so there are at most 2^w of them.
unfoldable pub links : ℕ → List Rule → List Link
links w rs = links_from w rs (2 ^ w) 0

-- "n rules give at most 4n + 1 links"
abbrev pub most_links : ℕ → ℕ
most_links n = 4 * n + 1

-- what a chain buffer has to hold for n rules, "three a link"
abbrev pub chain_room : ℕ → ℕ
chain_room n = 3 * most_links n

-- links as a lent buffer holds them, three numbers each
unfoldable pub numbers_of : List Link → List ℕ
numbers_of [] = []
numbers_of (l ∷ ls) = l.from ∷ l.to ∷ l.reason ∷ numbers_of ls

-- the link whose numbers a buffer holds from place i on
abbrev pub link_from : List ℕ → ℕ → Link
link_from ns i = link (get_or ns i 0) (get_or ns (i + 1) 0) (get_or ns (i + 2) 0)
