-- What the check of a list of links against rules says, by search over all words (02, K3). A sentence of the paper stands above each clause.
use Rattle.std.specs.Prelude.{Bool, true, false, not, ◌&&◌, ◌||◌, List, [], ◌∷◌, ℕ, zero, suc, max, ◌-◌, ◌%◌, eqb, leb, ltb, length}
use Rattle.word.specs.Word.{top}
use Rattle.rule.specs.declared.Rule.{Rule}
use Rattle.rule.specs.Meaning.{meets, meets7}
use Rattle.rule.specs.accept.Accept.{every}
use Rattle.chain.specs.declared.Link.{Link}
use Rattle.chain.specs.Links.{BITS, link, nth}

-- each of k words from p passes
unfoldable pub all_of : (ℕ → Bool) → (k p : ℕ) → Bool
all_of f zero p = true
all_of f (suc k) p = f p && all_of f k (suc p)

-- every word from one to another passes
unfoldable pub every_word : (ℕ → Bool) → (from to : ℕ) → Bool
every_word f from to = all_of f (suc to - from) from

-- the links that a list of numbers holds, "three a link"
unfoldable pub links_in : List ℕ → List Link
links_in [] = []
links_in (from ∷ []) = []
links_in (from ∷ to ∷ []) = []
links_in (from ∷ to ∷ reason ∷ ns) = link from to reason ∷ links_in ns

-- "each link has from <= to <= top"
unfoldable pub in_order : ℕ → Link → Bool
in_order w l = leb l.from l.to && leb l.to (top w)

-- "the number of a rule in force, not of form 7, which every word of the link fails"
unfoldable pub names_rule : ℕ → List Rule → Link → Bool
names_rule w rs l =
    ltb l.reason (length rs)
    && (not (eqb (nth rs l.reason).form 7)
    && every_word (λ (x : ℕ). not (meets w (nth rs l.reason) x)) l.from l.to)

-- "255 where no word of the link meets all form 7 rules"
unfoldable pub names_bits : ℕ → List Rule → Link → Bool
names_bits w rs l = eqb l.reason BITS && every_word (λ (x : ℕ). not (meets7 w rs x)) l.from l.to

-- "each reason is either .. or .."
unfoldable pub right_reason : ℕ → List Rule → Link → Bool
right_reason w rs l = names_rule w rs l || names_bits w rs l

-- the largest end of links, where e is the largest before them
unfoldable pub largest_end : (e : ℕ) → List Link → ℕ
largest_end e [] = e
largest_end e (l ∷ ls) = largest_end (max e l.to) ls

-- "each later one starts at most one past the largest end so far", where e is the largest before these
unfoldable pub no_gap : (e : ℕ) → List Link → Bool
no_gap e [] = true
no_gap e (l ∷ ls) = leb l.from (suc e) && no_gap (max e l.to) ls

-- "the list isn't empty", each link is in order, "the first starts at 0", there is no gap, "the largest end is the top word", and
-- each reason is right
unfoldable pub shown : ℕ → List Rule → List Link → Bool
shown w rs [] = false
shown w rs (l ∷ ls) =
    every (in_order w) (l ∷ ls)
    && (eqb l.from 0
    && (no_gap l.to ls && (eqb (largest_end l.to ls) (top w) && every (right_reason w rs) (l ∷ ls))))

-- "A length that isn't a multiple of three gets no."
unfoldable pub shown_by : ℕ → List Rule → List ℕ → Bool
shown_by w rs ns = eqb (length ns % 3) 0 && shown w rs (links_in ns)
