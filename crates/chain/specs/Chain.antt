-- What the paper's definition asks of a chain, link by link, with no search: a list is the chain from p when its first
-- link is the one that the paper takes at p, and the rest is the chain from the word after it.
use Rattle.std.specs.Prelude.{◌≡◌, true, false, ◌⊎◌, List, [], ◌∷◌, ℕ, suc, max, ◌≤◌, ◌<◌, length}
use Rattle.word.specs.Word.{top}
use Rattle.rule.specs.declared.Rule.{Rule}
use Rattle.rule.specs.Meaning.{meets, meets7}
use Rattle.chain.specs.declared.Link.{Link}
use Rattle.chain.specs.Links.{BITS, nth}

-- rule number i is there, and is outside form 7
pub record Plain (rs : List Rule) (i : ℕ) : Type 0 where
  pub there : i < length rs
  pub other : (nth rs i).form ≡ 7 → ⊥

-- every word from p to q fails rule i, and q is a word
pub record Fails (w : ℕ) (rs : List Rule) (i p q : ℕ) : Type 0 where
  pub plain : Plain rs i
  pub order : p ≤ q
  pub word : q ≤ top w
  pub each : (x : ℕ) → p ≤ x → x ≤ q → meets w (nth rs i) x ≡ false

-- no word from p to q meets all form 7 rules, and q is a word
pub record Lacks (w : ℕ) (rs : List Rule) (p q : ℕ) : Type 0 where
  pub order : p ≤ q
  pub word : q ≤ top w
  pub each : (x : ℕ) → p ≤ x → x ≤ q → meets7 w rs x ≡ false

-- a link at p that ends at q and names rule i: it fails to q, no rule fails further, and no lower number fails as far
pub record RuleLink (w : ℕ) (rs : List Rule) (p q i : ℕ) : Type 0 where
  pub fails : Fails w rs i p q
  pub furthest : (j q' : ℕ) → Fails w rs j p q' → q' ≤ q
  pub lowest : (j : ℕ) → Fails w rs j p q → i ≤ j

-- where it starts: rule i fails from s to p, and from no word below s
pub record Starts (w : ℕ) (rs : List Rule) (p s i : ℕ) : Type 0 where
  pub fails : Fails w rs i s p
  pub lowest : (s' : ℕ) → Fails w rs i s' p → s ≤ s'

-- the link (p, q, 255): p fails no rule outside form 7, and q is just before the next word that meets all of form 7
pub record BitsLink (w : ℕ) (rs : List Rule) (p q : ℕ) : Type 0 where
  pub no_rule : (j : ℕ) → Fails w rs j p p → ⊥
  pub lacks : Lacks w rs p q
  pub next : (q ≡ top w) ⊎ (meets7 w rs (suc q) ≡ true)

-- the link that the paper takes at p
abbrev pub Taken : ℕ → List Rule → ℕ → Link → Type 0
Taken w rs p l =
    (RuleLink w rs p l.to l.reason × Starts w rs p l.from l.reason)
    ⊎ ((l.reason ≡ BITS) × (l.from ≡ p) × BitsLink w rs p l.to)

-- the chain from p on
pub data IsChain (w : ℕ) (rs : List Rule) : ℕ → List Link → Type 0 where
  last : {p : ℕ} {l : Link} → Taken w rs p l → l.to ≡ top w → IsChain w rs p (l ∷ [])
  more : {p : ℕ} {l : Link} {ls : List Link} → Taken w rs p l → l.to < top w → IsChain w rs (suc l.to) ls → IsChain w rs p (l ∷ ls)

-- What a link shows of its words, whoever wrote it: each fails the rule that it names, or each fails a form 7 rule.
abbrev pub Shows : ℕ → List Rule → Link → Type 0
Shows w rs l = Fails w rs l.reason l.from l.to ⊎ ((l.reason ≡ BITS) × Lacks w rs l.from l.to)

-- Links that cover the wheel, where n words are covered so far, from 0: each link starts at or below n and shows its words, n
-- becomes the larger of n and one more than the link's end, and at the end all words are covered.
pub data Covers (w : ℕ) (rs : List Rule) : ℕ → List Link → Type 0 where
  end : {n : ℕ} → n ≡ suc (top w) → Covers w rs n []
  on : {n : ℕ} {l : Link} {ls : List Link} → l.from ≤ n → Shows w rs l → Covers w rs (max n (suc l.to)) ls → Covers w rs n (l ∷ ls)

-- the word x lies in a link of the list, which shows its words
pub data Shown (w : ℕ) (rs : List Rule) (x : ℕ) : List Link → Type 0 where
  here : {l : Link} {ls : List Link} → l.from ≤ x → x ≤ l.to → Shows w rs l → Shown w rs x (l ∷ ls)
  later : {l : Link} {ls : List Link} → Shown w rs x ls → Shown w rs x (l ∷ ls)

-- no two links with reason 255 stand next to each other
pub data Apart : List Link → Type 0 where
  none : Apart []
  one : {l : Link} → Apart (l ∷ [])
  two : {l m : Link} {ls : List Link} → (l.reason ≡ BITS → m.reason ≡ BITS → ⊥) → Apart (m ∷ ls) → Apart (l ∷ m ∷ ls)
