-- Names as the clerk has them: a list, a name for each rule that was added and not struck out for good.
use Rattle.std.specs.Prelude.{◌≡◌, Bool, true, not, ◌&&◌, cond, List, [], ◌∷◌, ◌++◌, ℕ, ◌+◌, ◌<◌, ◌≤◌, eqb, get_or, length, replicate, take}
use Rattle.rule.specs.Meaning.{RULES}
use Rattle.line.specs.Line.{LIMIT}
use Rattle.line.specs.declared.Statement.{Statement}
use Rattle.naming.specs.Names.{kept, name_in, new_rules}

-- a name has no zero byte
unfoldable pub no_zero : List ℕ → Bool
no_zero [] = true
no_zero (b ∷ bs) = not (eqb b 0) && no_zero bs

-- The names after an accepted statement, on a sheet that had so many rules in force: one that adds rules cuts the list to those in force and puts
-- its name once for each new one, and any other leaves the list, so that a step back and a step forward find the names that were there.
unfoldable pub names_after : Statement → (count : ℕ) (name : List ℕ) → List (List ℕ) → List (List ℕ)
names_after st count name ns = cond (eqb (new_rules st) 0) ns (take count ns ++ replicate (new_rules st) name)

-- each row has the name that the list has
pub record Holds (rows ns : List (List ℕ)) : Type 0 where
  pub same : (i : ℕ) → i < length ns → name_in (get_or rows i []) ≡ get_or ns i []

-- Accepted statements one after another, from rows and a list to rows and a list: each is said of a sheet with so many rules in force, for each of
-- which there is a name, and which has room for what the statement adds; its name has no zero byte, and is no longer than a line.
pub data Said : (rows ns rows' ns' : List (List ℕ)) → Type 0 where
  nothing : {rows ns : List (List ℕ)} → Said rows ns rows ns
  next : {rows ns rows' ns' : List (List ℕ)} (st : Statement) (count : ℕ) (name : List ℕ)
      → count ≤ length ns → count + new_rules st ≤ RULES → no_zero name ≡ true → length name ≤ LIMIT
      → Said (kept st count name rows) (names_after st count name ns) rows' ns' → Said rows ns rows' ns'
