-- However the input is cut into parts, the desk says the same. Bytes that go in one part after the other go in together; what a
-- feeding says is what the bytes that it used get. Assumes nothing.
use mathlib.Core.Path.{◌≡◌, refl, sym, ap, ap₂, ◌∙◌, subst}
use mathlib.Core.List.{List, ◌++◌}
use Prim.Native.Nat.{ℕ, ◌+◌, ◌-◌}
use native.Mathlib.Omega.{arith}
use lib.ListN.{drop, length, take}
use lib.Seq.{take-add}
use Rattle.sheet.specs.declared.Sheet.{Sheet}
use Rattle.frame.specs.fields.Answers.{answer_bytes}
use Rattle.frame.specs.fields.Fields.{Line}
use Rattle.frame.proofs.Unique.{put_unique, said_unique}
use Rattle.frame.specs.input_line.Lines.{with_end}
use Rattle.frame.proofs.input_line.Lines.{end_prefix}
use Rattle.frame.specs.exchange.route.Begun.{none}
use Rattle.frame.specs.exchange.route.Desk.{Desk, Fed, desk, fed}
use Rattle.frame.specs.exchange.route.Statements.{Ends, FedSo, Feeds, Finished, Takes, a_line, all_used, ends_line, goes_on, last_line, no_line, no_room, nothing}
pub use Rattle.frame.proofs.exchange.Taking.{takes_on}

pub feeds_takes : {m n : ℕ} {d e : Desk} {bs o : List ℕ} → Feeds m d bs e n o → Takes d (take n bs) e o
feeds_takes all_used = nothing
feeds_takes (no_room h) = nothing
feeds_takes {d} {e} {bs} {o} (a_line {n = k} r h t q) =
    let first = ap (λ (l : List ℕ). l ++ take k (drop (length (with_end bs)) bs)) (end_prefix bs) in
    subst (λ (l : List ℕ). Takes d l e o) (sym (take-add (length (with_end bs)) k bs ∙ first)) (takes_on t (feeds_takes q))

-- ---- one outcome

pub takes_unique : {d e e' : Desk} {bs o o' : List ℕ} → Takes d bs e o → Takes d bs e' o' → (e ≡ e') × (o ≡ o')
takes_unique nothing nothing = (refl, refl)
takes_unique {e} (ends_line {bs} {o} ls h s t) (ends_line ls' h' s' t') =
    let u = said_unique s s' in
    let v = takes_unique (subst (λ (x : Sheet). Takes (desk x none) bs e o) u.0 t) t' in
    (v.0, ap₂ (λ (ks : List Line) (l : List ℕ). answer_bytes ks ++ l) u.1 v.1)
takes_unique (ends_line ls h s t) (goes_on n t') = absurd (n h)
takes_unique (goes_on n t) (ends_line ls h' s' t') = absurd (n h')
takes_unique (goes_on n t) (goes_on n' t') = takes_unique t t'

pub feeds_unique : {m n n' : ℕ} {d e e' : Desk} {bs o o' : List ℕ} → Feeds m d bs e n o → Feeds m d bs e' n' o'
    → (e ≡ e') × (n ≡ n') × (o ≡ o')
feeds_unique all_used all_used = (refl, refl, refl)
feeds_unique all_used (no_room h) = (refl, refl, refl)
feeds_unique all_used (a_line r h t k) = absurd (omega arith)
feeds_unique (no_room h) all_used = (refl, refl, refl)
feeds_unique (no_room h) (no_room h') = (refl, refl, refl)
feeds_unique (no_room h) (a_line r i t k) = absurd (omega arith)
feeds_unique (a_line r h t k) all_used = absurd (omega arith)
feeds_unique (a_line r i t k) (no_room h) = absurd (omega arith)
feeds_unique {m} {bs} (a_line {n = i} {f} {p} r h t k) (a_line r' h' t' k') =
    let u = takes_unique t t' in
    let rest = drop (length (with_end bs)) bs in
    let same = ap₂ (λ (x : Desk) (l : List ℕ). Feeds (m - length l) x rest f i p) u.0 u.1 in
    let v = feeds_unique (subst (λ (X : Type 0). X) same k) k' in
    (v.0, ap (λ (j : ℕ). length (with_end bs) + j) v.1, ap₂ ◌++◌ u.1 v.2)

pub fed_unique : {d : Desk} {part b b₁ b₂ : List ℕ} {r₁ r₂ : Fed} → FedSo d part b b₁ r₁ → FedSo d part b b₂ r₂ → (r₁ ≡ r₂) × (b₁ ≡ b₂)
fed_unique {r₁} {r₂} u v =
    let f = feeds_unique u.feeds v.feeds in
    let w = put_unique f.2 u.puts v.puts in
    (ap (λ (d : Desk). fed d r₁.used r₁.written) f.0 ∙ ap₂ (fed r₂.desk) f.1 w.1, w.0)

ends_unique : {d : Desk} {o p : List ℕ} → Ends d o → Ends d p → o ≡ p
ends_unique (no_line z) (no_line z') = refl
ends_unique (no_line z) (last_line ls n q) = absurd (n z)
ends_unique (last_line ls n q) (no_line z) = absurd (n z)
ends_unique (last_line ls n q) (last_line ls' n' q') = ap answer_bytes (said_unique q q').1

pub finished_unique : {d : Desk} {b b₁ b₂ : List ℕ} {n₁ n₂ : ℕ} → Finished d b b₁ n₁ → Finished d b b₂ n₂ → (n₁ ≡ n₂) × (b₁ ≡ b₂)
finished_unique u v =
    let w = put_unique (ends_unique u.ends v.ends) u.puts v.puts in
    (w.1, w.0)
