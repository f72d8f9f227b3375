-- `set` meets its contract: a gate has its four rules, or a limit that is not a number. Assumes nothing.
use mathlib.Core.Path.{◌≡◌, refl, sym, ◌∙◌}
use mathlib.Core.Bool.{Bool, true, false, cond}
use Prim.Native.Nat.{ℕ}
use native.Mathlib.Omega.{arith}
use Rattle.gate.specs.declared.Four.{Four}
use Rattle.gate.specs.declared.Gate.{Gate}
use Rattle.gate.specs.declared.Refusal.{Refusal}
use Rattle.gate.specs.declared.Refusal.TheVariants.{NotANumber}
use Rattle.std.specs.Prelude.{Ok, Err}
use Rattle.gate.specs.Gate.{four_of, not_numbers, through, turned}
use Rattle.sheet.specs.Statements.{Outcome}
use Rattle.gating.specs.gate_refusal.route.Seen.{SeenFor}
use Rattle.gating.specs.route.Added.{AddedFor}
use Rattle.gating.proofs.Gating.{limit_refused, refused_gate}
use Rattle.gating.proofs.set.Goals as goal

module _ (g : Gate) where
  numbers : (f : Four) → turned g ≡ Ok f → (not_numbers g ≡ false) × (f ≡ four_of (through g))
  unfolding turned
  numbers f = go (not_numbers g) refl
    where
      go : (b : Bool) → not_numbers g ≡ b → cond b (Err NotANumber) (Ok (four_of (through g))) ≡ Ok f → (not_numbers g ≡ false) × (f ≡ four_of (through g))
      go true n e = let z : ◌≡◌ {A = ℕ} 0 1 = cc in absurd (omega arith)
      go false n e = (n, cc)

  no_number : {e : Refusal} → turned g ≡ Err e → not_numbers g ≡ true
  unfolding turned
  no_number {e} = go (not_numbers g) refl
    where
      go : (b : Bool) → not_numbers g ≡ b → cond b (Err NotANumber) (Ok (four_of (through g))) ≡ Err e → not_numbers g ≡ true
      go true n f = n
      go false n f = let z : ◌≡◌ {A = ℕ} 0 1 = cc in absurd (omega arith)

pub returns-in-Ok : goal.returns-in-Ok
unfolding AddedFor
returns-in-Ok c =
    let n = numbers _ _ (sym c.rules.ensures ∙ c.in-Ok.is) in
    c.added.ensures _ n.0 n.1

pub returns-in-Err-NotANumber : goal.returns-in-Err-NotANumber
unfolding SeenFor Outcome
returns-in-Err-NotANumber c =
    let n = no_number _ (sym c.rules.ensures ∙ c.in-Err-NotANumber.is) in
    let seen = c.refusal_of.ensures _ n in
    refused_gate _ seen (limit_refused _ n seen)
