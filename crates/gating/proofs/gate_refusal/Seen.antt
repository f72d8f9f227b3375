-- What the tests for a gate say of the record: 17 and 1 before the table, and then a row of it each. Assumes nothing.
use mathlib.Core.Path.{◌≡◌, refl, sym, subst, ◌∙◌}
use mathlib.Core.Bool.{true, false}
use Prim.Native.Nat.{ℕ, ◌≤◌, ◌<◌}
use native.Mathlib.Omega.{arith}
use Rattle.gate.specs.declared.Gate.{Gate}
use Rattle.gate.specs.Gate.{not_numbers}
use Rattle.page.specs.Calls.{refusal, set_gate}
use Rattle.page.specs.Page.{page}
use Rattle.page.proofs.Gates.{gate_fits, gate_full, gate_limit, gate_width}
use Rattle.sheet.specs.declared.Sheet.{Sheet}
use Rattle.sheet.specs.route.Stands.{Standing, Stands}
use Rattle.sheet.specs.Statements.{IsSheet}
use Rattle.sheet.proofs.Stands.{has_page, has_width, is_blank_lem, known}
use Rattle.gating.specs.gate_refusal.route.Seen.{GateSeen, before_table, by_table}

module _ (s : Sheet) (g : Gate) where
  pub seen_none : (IsSheet s → ⊥) → GateSeen s g 17
  seen_none i = before_table (Stands.no_sheet i) (λ e. omega arith)

  -- of a sheet
  module _ (i : IsSheet s) where
    pub seen_blank : s.width ≡ 0 → GateSeen s g 1
    seen_blank z = before_table (is_blank_lem i z) (λ e. omega arith)

    module _ (z : s.width ≡ 0 → ⊥) where
      stands : Standing s
      stands = has_page (has_width i z) refl

      seen : {n : ℕ} → refusal (page stands.on) (set_gate g) ≡ n → GateSeen s g n
      seen e = subst (GateSeen s g) e (by_table stands)

      pub seen_other : (s.width ≡ 32 → ⊥) → GateSeen s g 13
      seen_other h = seen (gate_width _ g (λ e. h ((known stands).width ∙ e)))

      module _ (w : s.width ≡ 32) where
        width : stands.on.opening.width ≡ 32
        width = sym (known stands).width ∙ w

        pub seen_limit : not_numbers g ≡ true → GateSeen s g 14
        seen_limit n = seen (gate_limit _ g width n)

        pub seen_full : not_numbers g ≡ false → 196 < s.count → GateSeen s g 6
        seen_full n h = seen (gate_full _ g width n (omega (arith, (known stands).count)))

        pub seen_fits : not_numbers g ≡ false → s.count ≤ 196 → GateSeen s g 0
        seen_fits n h = seen (gate_fits _ g width n (omega (arith, (known stands).count)))
