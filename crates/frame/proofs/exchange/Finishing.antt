-- To feed one byte 10 where a line is begun is to finish: the byte ends the line, and nothing follows it. Assumes nothing.
use mathlib.Core.Path.{◌≡◌, refl, ap, sym, ◌∙◌, subst}
use mathlib.Core.List.{List, [], ◌∷◌, ◌++◌, append-nil}
use Prim.Native.Nat.{ℕ, ◌≤◌}
use native.Mathlib.Omega.{arith}
use lib.ListN.{drop, length}
use Rattle.frame.specs.fields.Answers.{NEWLINE, ROOM, answer_bytes}
use Rattle.frame.specs.input_line.Lines.{line_of, with_end}
use Rattle.frame.specs.exchange.route.Desk.{Desk, Fed}
use Rattle.frame.specs.exchange.route.Statements.{Ends, FedSo, Feeds, Finished, Takes, a_line, all_used, ends_line, goes_on, last_line, no_room, nothing}

nothing_taken : {d e : Desk} {bs o : List ℕ} → Takes d bs e o → bs ≡ [] → o ≡ []
nothing_taken nothing z = refl
nothing_taken (ends_line ls h s t) z = absurd (omega (arith, ap length z))
nothing_taken (goes_on n t) z = absurd (omega (arith, ap length z))

nothing_fed : {m : ℕ} {d e : Desk} {bs : List ℕ} {n : ℕ} {o : List ℕ} → Feeds m d bs e n o → bs ≡ [] → o ≡ []
nothing_fed all_used z = refl
nothing_fed (no_room h) z = refl
nothing_fed (a_line r h t k) z = absurd (omega (arith, ap length z))

module _ {d : Desk} (begun : d.begun.len ≡ 0 → ⊥) where
  line_over : {e : Desk} {bs o : List ℕ} → Takes d bs e o → bs ≡ NEWLINE ∷ [] → Ends d o
  line_over nothing z = absurd (omega (arith, ap length z))
  line_over (ends_line {bs} {o} ls h s t) z =
      let rest : bs ≡ [] = cc in
      subst (Ends d) (sym (ap (λ (p : List ℕ). answer_bytes ls ++ p) (nothing_taken t rest) ∙ append-nil (answer_bytes ls))) (last_line ls begun s)
  line_over (goes_on {b} n t) z = let e : b ≡ NEWLINE = cc in absurd (n e)

  byte_fed : {m : ℕ} {e : Desk} {bs : List ℕ} {n : ℕ} {o : List ℕ} → Feeds m d bs e n o → bs ≡ NEWLINE ∷ [] → ROOM ≤ m → Ends d o
  unfolding with_end line_of
  byte_fed all_used z r = absurd (omega (arith, ap length z))
  byte_fed (no_room h) z r = absurd (omega arith)
  byte_fed (a_line {bs} {o} {p} s h t k) z r =
      let line = ap with_end z in
      let after = ap (λ (l : List ℕ). drop (length (with_end l)) l) z in
      subst (Ends d) (sym (ap (λ (q : List ℕ). o ++ q) (nothing_fed k after) ∙ append-nil o)) (line_over t line)

  pub fed_finished : {b b' : List ℕ} {r : Fed} → ROOM ≤ length b → FedSo d (NEWLINE ∷ []) b b' r → Finished d b b' r.written
  fed_finished m f = record { bytes = f.bytes; ends = byte_fed f.feeds refl m; puts = f.puts }
