-- What a gate comes to by the number that its tests gave, and what adding the four rules comes to: calls one after another, none of which is
-- refused, come to the page that the clerk has after the gate. Assumes nothing.
use mathlib.Core.Path.{◌≡◌, refl, sym, ap, subst, subst₂, ◌∙◌}
use mathlib.Core.Bool.{true, false≢true}
use mathlib.Core.List.{map}
use Prim.Native.Nat.{ℕ}
use Rattle.word.specs.declared.Edition.{Edition}
use Rattle.gate.specs.declared.Four.{Four}
use Rattle.gate.specs.declared.Gate.{Gate}
use Rattle.gate.specs.Gate.{four_of, gate_rules, listed, not_numbers, through}
use Rattle.page.specs.Calls.{add, refusal, set_gate, written}
use Rattle.page.specs.Page.{Page, page}
use Rattle.page.proofs.Counted.{counts_as_rules}
use Rattle.page.proofs.Gates.{blank_gate, gate_set}
use Rattle.page.proofs.Replayed.{Leads}
use Rattle.sheet.specs.declared.Answer.{Answer}
use Rattle.sheet.specs.declared.Sheet.{Sheet}
use Rattle.sheet.specs.Record.{fresh}
use Rattle.sheet.specs.route.Stands.{Standing}
use Rattle.sheet.specs.Statements.{AllAccepted, Outcome, Reads, Sequence, answers, calls, done}
use Rattle.sheet.proofs.Stands.{known, refused_standing}
use Rattle.sheet.proofs.Ways.{accepted_reads, refused_reads}
use Rattle.sheet.proofs.demands.Demand.{sequence_accepted, sequence_clerk}
use Rattle.gating.specs.gate_refusal.route.Seen.{GateSeen, before_table, by_table}

-- a gate that is refused, and one that is not
pub refused_gate : {s : Sheet} (g : Gate) {n : ℕ} → GateSeen s g n → (n ≡ 0 → ⊥) → Reads s (set_gate g) (answers n s)
refused_gate g (before_table t z) d = refused_standing t d (set_gate g) (blank_gate g)
refused_gate g (by_table p) d = refused_reads (page p.on) p.reached p.gives (set_gate g) refl d

accepted_gate : {s : Sheet} (g : Gate) {n : ℕ} → GateSeen s g n → n ≡ 0 → (p : Standing s) × (refusal (page p.on) (set_gate g) ≡ 0)
accepted_gate g (before_table t z) e = absurd (z e)
accepted_gate g (by_table p) e = (p, e)

-- where a limit is not a number there is no such page
pub limit_refused : {s : Sheet} (g : Gate) {n : ℕ} → not_numbers g ≡ true → GateSeen s g n → n ≡ 0 → ⊥
limit_refused g h seen e =
    let a = accepted_gate g seen e in
    false≢true (sym (gate_set _ g a.1).1 ∙ h)

-- the four adds, one after the other
module _ (s : Sheet) (g : Gate) (four : Four) (a b c d : Answer) where
  pub four_added : GateSeen s g 0 → four ≡ four_of (through g) → Outcome s (add s.edition four.first) a
      → Outcome a.sheet (add s.edition four.second) b
      → Outcome b.sheet (add s.edition four.third) c
      → Outcome c.sheet (add s.edition four.fourth) d
      → Reads s (set_gate g) d
  unfolding gate_rules listed AllAccepted
  four_added seen f p q r t =
      let (on, none) = accepted_gate g seen refl in
      let pg : Page = page on.on in
      let adds : Sequence s (map (add s.edition) (listed four)) d.sheet = calls _ a p (calls _ b q (calls _ c r (calls _ d t done))) in
      let leads : Leads pg (map (add s.edition) (listed four)) (written pg (set_gate g)) =
      subst₂ (λ (e : Edition) (u : Four). Leads pg (map (add e) (listed u)) (written pg (set_gate g))) (sym (known on).edition) (sym f)
      (counts_as_rules on.on g on.reached none) in
      let number : d.number ≡ 0 = (sequence_accepted on.reached on.gives leads.accepted adds).1.1.1.0 in
      let sheet : fresh (written pg (set_gate g)) ≡ d.sheet = sym (sequence_clerk on.reached on.gives adds ∙ ap fresh leads.comes_to) in
      subst (Reads s (set_gate g)) (ap (λ (n : ℕ). answers n d.sheet) (sym number)) (accepted_reads pg on.reached on.gives (set_gate g) none sheet)
