-- A line goes in byte by byte, and is answered where its byte 10 is there. Assumes nothing.
use mathlib.Core.Path.{◌≡◌, refl, sym, subst}
use mathlib.Core.List.{List, [], ◌∷◌, ◌++◌, append_assoc, append-nil}
use Prim.Native.Nat.{ℕ, ◌<◌}
use native.Mathlib.Decide.{ℕ_discrete}
use borrow.Author.Tests.{eq-eqb, ne_eqb}
use lib.ListN.{length}
use Rattle.sheet.specs.declared.Sheet.{Sheet}
use Rattle.frame.specs.fields.Answers.{NEWLINE, answer_bytes}
use Rattle.frame.specs.fields.Fields.{Line}
use Rattle.frame.specs.input_line.Lines.{line_of, with_end}
use Rattle.frame.proofs.input_line.Lines.{end_none, end_there}
use Rattle.frame.specs.exchange.route.Begun.{joined, none, put}
use Rattle.frame.specs.exchange.route.Desk.{Desk, desk}
use Rattle.frame.specs.exchange.route.Statements.{LineSaid, Takes, ends_line, goes_on, nothing}

pub takes_on : {d e f : Desk} {bs cs o p : List ℕ} → Takes d bs e o → Takes e cs f p → Takes d (bs ++ cs) f (o ++ p)
takes_on nothing k = k
takes_on {p} (ends_line {o = q} ls h s t) k = subst (Takes _ _ _) (sym (append_assoc (answer_bytes ls) q p)) (ends_line ls h s (takes_on t k))
takes_on (goes_on n t) k = goes_on n (takes_on t k)

-- the bytes before the byte 10 go to the line
line_in : (d : Desk) (bs : List ℕ) → Takes d (line_of bs) (desk d.sheet (joined d.begun (line_of bs))) []
unfolding line_of joined
line_in d [] = nothing
line_in d (b ∷ bs) = go (ℕ_discrete b NEWLINE) (line_in (desk d.sheet (put d.begun b)) bs)
  where
    go : Dec (b ≡ NEWLINE) → Takes (desk d.sheet (put d.begun b)) (line_of bs) (desk d.sheet (joined (put d.begun b) (line_of bs))) []
        → Takes d (line_of (b ∷ bs)) (desk d.sheet (joined d.begun (line_of (b ∷ bs)))) []
    go (yes e) t = rw (eq-eqb b NEWLINE e) nothing
    go (no n) t = rw (ne_eqb b NEWLINE n) (goes_on n t)

-- all bytes belong to the line
pub unended : (d : Desk) (bs : List ℕ) → length (line_of bs) ≡ length bs
    → Takes d (with_end bs) (desk d.sheet (joined d.begun (line_of bs))) []
unended d bs h = rw (end_none bs h) (line_in d bs)

-- the line's byte 10 is there
pub ended : (d : Desk) (bs : List ℕ) → length (line_of bs) < length bs → {t : Sheet} (ls : List Line)
    → LineSaid (desk d.sheet (joined d.begun (line_of bs))) t ls → Takes d (with_end bs) (desk t none) (answer_bytes ls)
ended d bs h {t} ls q =
    rw (end_there bs h)
    (subst (Takes d (line_of bs ++ NEWLINE ∷ []) (desk t none)) (append-nil (answer_bytes ls)) (takes_on (line_in d bs) (ends_line ls refl q nothing)))
