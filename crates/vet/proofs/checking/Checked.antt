-- A status of 0 says that no word fits: yes was found of some numbers, so that the check accepts them, and it accepts only what shows it. Assumes nothing.
use Rattle.std.proofs.Common.{◌≡◌, ℕ, Bool, true, false, cond, List, Result, sym, refl, ◌∙◌, arith}
use Rattle.sheet.specs.declared.Sheet.{Sheet}
use Rattle.std.specs.Result.{is_ok}
use Rattle.checker.specs.declared.finding.Breach.{Breach}
use Rattle.checker.specs.Check.{accepts}
use Rattle.checker.proofs.NoFit.{yes_no_fit}
use Rattle.vet.specs.status.Status.{status_of}
use Rattle.vet.specs.checking.Checked.{Checked}

zero_yes : (f : Result Unit Breach) → status_of f ≡ 0 → is_ok f ≡ true
unfolding status_of
zero_yes f e = go (is_ok f) e
  where
    go : (b : Bool) → ◌≡◌ {A = ℕ} (cond b 0 1) 0 → b ≡ true
    go true e = refl
    go false e = absurd (omega arith)

pub found_so : (s : Sheet) (ns : List ℕ) (f : Result Unit Breach) (k : ℕ) → is_ok f ≡ accepts s ns → k ≡ status_of f → Checked s k
found_so s ns f k a e z =
    let yes = sym a ∙ zero_yes f (sym e ∙ z) in
    record { numbers = ns; accepted = yes; none = yes_no_fit s ns yes }
