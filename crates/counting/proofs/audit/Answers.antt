-- What asking and counting say of the sheet of a page, by the page alone. Assumes nothing.
use mathlib.Core.Path.{◌≡◌, sym, ap, ◌∙◌}
use mathlib.Core.Bool.{false}
use mathlib.Core.List.{List}
use Prim.Native.Nat.{ℕ}
use lib.ListN.{length}
use Rattle.search.specs.verdict.Kept.{kept}
use Rattle.chain.specs.Findings.{findings}
use Rattle.page.specs.Calls.{ask, first_that_applies, is_blank, refusal, rules_of}
use Rattle.page.specs.Page.{Page, width_of}
use Rattle.page.specs.Reached.{Reached}
use Rattle.sheet.specs.declared.slate_ask.Reply.{Reply}
use Rattle.sheet.specs.declared.Sheet.{Sheet}
use Rattle.sheet.specs.Record.{fresh}
use Rattle.sheet.specs.Statements.{Asked}
use Rattle.sheet.proofs.WaysOfAsking.{accepted_reply, reply-number}
use Rattle.counting.specs.fitting.Words.{how_many}
use Rattle.counting.specs.declared.Share.{Share}
use Rattle.counting.specs.Share.{together}
use Rattle.counting.proofs.Free.{together-shares}
use Rattle.counting.specs.Counted.{Counted, count_grounds, share_of}

module _ {s : Sheet} (pg : Page) (h : Reached pg) (e : s ≡ fresh pg) {b b' : List ℕ} {r : Reply} (a : Asked s b b' r) where
  pub asked_number : r.number ≡ refusal pg (ask (length b))
  asked_number = ap Reply.number (a.on_page pg h e).0 ∙ reply-number pg (length b)

  pub asked_kept : r.number ≡ 0 → r.kept ≡ kept (width_of pg) (rules_of pg)
  unfolding findings
  asked_kept z = ap Reply.kept ((a.on_page pg h e).0 ∙ sym (accepted_reply pg (length b) (sym asked_number ∙ z)))

-- the words that a count gives of a page that is open
share_words : (pg : Page) → is_blank pg ≡ false → together (share_of pg) ≡ how_many (width_of pg) (rules_of pg)
unfolding share_of count_grounds first_that_applies
share_words pg n = rw n (together-shares 0 (how_many (width_of pg) (rules_of pg)))

pub counted_words : {s : Sheet} (pg : Page) → Reached pg → s ≡ fresh pg → is_blank pg ≡ false → {c : Share} → Counted s c
    → together c ≡ how_many (width_of pg) (rules_of pg)
counted_words pg h e n a = ap together (a.on_page pg h e) ∙ share_words pg n
