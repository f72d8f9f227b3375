-- What asking answers.
use Rattle.std.specs.Prelude.{ℕ}
use Rattle.search.specs.declared.verdict.Kept.{Kept}
use Rattle.search.specs.verdict.Kept.{keeps}
use Rattle.sheet.specs.declared.slate_ask.Reply.{Reply}

abbrev pub replies : ℕ → Kept → ℕ → Reply
replies n k l = record { number = n; kept = k; links = l }

-- "A refusal answers its number, with zeros in the answer's other places"
abbrev pub refuses : ℕ → Reply
refuses n = replies n (keeps 0 0 0) 0
