-- The same with no search: the breach is that of a clause that does not hold, and every clause before it holds. That the breach is
-- this, and no other is, is proved (proofs/finding/Broken.antt).
use Rattle.std.specs.Prelude.{◌≡◌, Bool, true, false, List, ◌∷◌, ◌++◌, ℕ, ◌≤◌, ◌<◌}
use Rattle.rule.specs.accept.Accept.{every}
use Rattle.chain.specs.declared.Link.{Link}
use Rattle.checker.specs.declared.finding.Breach.{Breach}
use Rattle.checker.specs.finding.Clauses.{Clause}

-- every clause of the list holds
abbrev pub all_hold : List Clause → Bool
all_hold cs = every (λ (c : Clause). c.holds) cs

-- clauses that hold, one that does not, and any after it
pub record IsFirst (cs : List Clause) (f : Breach) : Type 0 where
  pub before : List Clause
  pub broken : Clause
  pub after : List Clause
  pub whole : cs ≡ before ++ (broken ∷ after)
  pub kept : all_hold before ≡ true
  pub fails : broken.holds ≡ false
  pub told : broken.found ≡ f

-- the smallest word of a link that passes a test
pub record IsSmallest (f : ℕ → Bool) (l : Link) (x : ℕ) : Type 0 where
  pub low : l.from ≤ x
  pub high : x ≤ l.to
  pub passes : f x ≡ true
  pub least : (y : ℕ) → l.from ≤ y → y < x → f y ≡ false
