-- "The status is 0 for yes, 1 for no": of what is found of a chain.
use Rattle.std.specs.Prelude.{cond, ℕ, Result}
use Rattle.std.specs.Result.{is_ok}
use Rattle.checker.specs.declared.finding.Breach.{Breach}
use Rattle.vet.specs.declared.status.Verdict.{Verdict}
use Rattle.vet.specs.declared.status.Verdict.TheVariants.{No, Unsaid, Yes}

unfoldable pub status_of : Result Unit Breach → ℕ
status_of f = cond (is_ok f) 0 1

-- the status of what is said of a chain: 2 where that is neither
abbrev pub number_of : Verdict → ℕ
number_of Yes = 0
number_of No = 1
number_of Unsaid = 2
