-- The numbers that a call finds from the head before it does anything. A route: they are the table's, as is proved of the record.
use Rattle.std.specs.Prelude.{Bool, cond, ℕ, eqb, leb}
use Rattle.word.specs.declared.Edition.{Edition}
use Rattle.word.specs.Edition.{same}
use Rattle.rule.specs.declared.Rule.{Rule}
use Rattle.rule.specs.Meaning.{RULES}
use Rattle.rule.specs.accept.Accept.{refusal_of}
use Rattle.sheet.specs.declared.slate.Head.{Head}

-- the number that comes before the table is looked at: 17 where there is no sheet, 1 on the blank sheet, else 0
unfoldable pub before : (stands : Bool) → (width : ℕ) → ℕ
before stands width = cond stands (cond (eqb width 0) 1 0) 17

-- the number with which a rule is refused, or 0: what comes before the table, then 11, then the rule's own number, then 6
unfoldable pub rule_number : Head → Edition → Rule → ℕ
rule_number h e u =
    let n : ℕ = before h.stands h.opening.width in
    let own : ℕ = refusal_of h.opening.width u in
    cond (eqb n 0) (cond (same e h.opening.edition) (cond (eqb own 0) (cond (leb RULES h.counts.count) 6 0) own) 11) n
