-- A mark on a slate: what waited is taken away, and what is kept of the rules in force is noted in the last one's row. Assumes nothing.
use mathlib.Core.Path.{◌≡◌, sym, ap, ◌∙◌, subst}
use mathlib.Core.List.{List, map}
use Prim.Native.Nat.{ℕ}
use native.Mathlib.Omega.{arith}
use lib.ListN.{take}
use Rattle.rule.specs.declared.Rule.{Rule}
use Rattle.rule.specs.band.route.Band.{band_of}
use Rattle.rule.specs.bits.route.Fixed.{fixed_bits}
use Rattle.search.specs.rows.route.Rows.{bands_in, rules_in}
use Rattle.search.specs.verdict.Kept.{kept}
use Rattle.sheet.specs.declared.slate.Head.{Head}
use Rattle.sheet.specs.slate.route.Held.{Beside, Held, bare_rows}
use Rattle.search.specs.noting.route.Note.{noting}
use Rattle.sheet.specs.slate.route.Notes.{Notes}
use Rattle.sheet.specs.slate.route.Numbers.{before}
use Rattle.sheet.proofs.slate.Holding.{kept_so, waits_so, width_so}
use Rattle.sheet.proofs.slate.Noted.{bands_stay, one_noted, rules_stay}
use Rattle.sheet.specs.slate.slate_calls.route.Done.{bare_rules, marked_head}
use Rattle.sheet.proofs.slate.slate_calls.Bare.{bare_drawn, bare_long, bare_noted, bare_rules_lem, rules_first}

module _ {h : Head} {rows : List (List ℕ)} {marks : List ℕ} (held : Held h rows marks) (e : before h.stands h.opening.width ≡ 0) (rows₁ rows₂ : List (List ℕ))
    (bare : rows₁ ≡ bare_rows h rows) (notes : rows₂ ≡ noting h.kept h.fixed rows₁ h.counts.count) where
  abbrev n : ℕ
  n = h.counts.count

  rules_too : rules_in rows₂ ≡ rules_in (bare_rows h rows)
  rules_too = ap rules_in notes ∙ rules_stay h.kept h.fixed rows₁ n ∙ ap rules_in bare

  pub rules_marked : rules_in rows₂ ≡ bare_rules h rows
  rules_marked = rules_too ∙ bare_rules_lem held e

  pub beside_marked : Beside (marked_head h) rows₂
  beside_marked =
      let w = h.opening.width in
      let d = bare_drawn held e in
      let bands_too = ap bands_in notes ∙ bands_stay h.kept h.fixed rows₁ n ∙ ap bands_in bare in
      let first = ap (take n) (bare_rules_lem held e) ∙ rules_first held e in
      let stays = waits_so held e in
      let noted = one_noted w (width_so held e).low n (bare_rows h rows) (bare_noted held e) n (omega (arith, bare_long held e, stays.given_low, stays.given_high)) h.kept h.fixed (kept_so held e ∙ ap (kept w) (sym first)) d.bits in
      record {
        drawn = record {
          own = ap (take n) bands_too ∙ d.own ∙ ap (λ (rs : List Rule). map (band_of w) (take n rs)) (sym rules_too);
          bits = d.bits ∙ ap (λ (rs : List Rule). fixed_bits (take n rs)) (sym rules_too);
        };
        noted = subst (Notes w n) (sym (notes ∙ ap (λ (l : List (List ℕ)). noting h.kept h.fixed l n) bare)) noted;
      }
