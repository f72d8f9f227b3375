-- No second outcome satisfies what is promised of an answer: the line picks the call, and a record is a sheet or it is not.
-- Assumes nothing.
use mathlib.Core.Path.{◌≡◌, refl, sym, ap, ◌∙◌}
use mathlib.Core.List.{List, [], ◌∷◌}
use Prim.Native.Nat.{ℕ, ◌+◌}
use lib.ListN.{length}
use lib.Seq.{sets}
use Rattle.sheet.specs.declared.Answer.{Answer}
use Rattle.sheet.specs.declared.slate_ask.Reply.{Reply}
use Rattle.sheet.specs.declared.Sheet.{Sheet}
use Rattle.sheet.specs.Statements.{Asked, IsSheet}
use Rattle.sheet.proofs.Tested.{sheet_dec}
use Rattle.sheet.proofs.demands.Unique.{outcome_unique}
use Rattle.frame.specs.fields.Answers.{answer_bytes, ask_lines, number_line}
use Rattle.frame.specs.Calls.{MadeCall}
use Rattle.frame.specs.fields.Fields.{Line}
use Rattle.frame.specs.Statements.{Answered, Said, answered, asked, no_call}
use Rattle.frame.specs.fields.Put.{PutAt}
use Rattle.frame.proofs.OnPage.{asked_lines}

same_answer : {r r' : Answer} → r ≡ r' → (r.sheet ≡ r'.sheet) × (number_line r.number ∷ [] ≡ number_line r'.number ∷ [])
same_answer e = (ap (λ (r : Answer). r.sheet) e, ap (λ (r : Answer). number_line r.number ∷ []) e)

-- whatever the numbers lent hold, asking says the same
same_asking : {s : Sheet} {m : ℕ} {b b' c c' : List ℕ} {r r' : Reply} → length b ≡ m → length b' ≡ m → Asked s b c r → Asked s b' c' r'
    → ask_lines s.edition r c ≡ ask_lines s.edition r' c'
unfolding ask_lines
same_asking {s} {c} {c'} {r} {r'} q q' a a' = go (sheet_dec s)
  where
    go : Dec (IsSheet s) → ask_lines s.edition r c ≡ ask_lines s.edition r' c'
    go (yes h) =
        asked_lines h.on h.reached h.gives q a ∙ sym (asked_lines h.on h.reached h.gives q' a')
    go (no n) =
        ap (λ (t : Reply). ask_lines s.edition t c) (a.no_sheet n).0 ∙ sym (ap (λ (t : Reply). ask_lines s.edition t c') (a'.no_sheet n).0)

pub said_unique : {s t t' : Sheet} {c : MadeCall} {o o' : List Line} → Said s c t o → Said s c t' o' → (t ≡ t') × (o ≡ o')
said_unique {s} (answered c r a) (answered c' r' a') = same_answer (outcome_unique s c a a')
said_unique (asked m b c r q a) (asked m' b' c' r' q' a') = (refl, same_asking q q' a a')
said_unique no_call no_call = (refl, refl)

-- bytes written into one buffer leave one buffer, and end at one place
pub put_unique : {b b₁ b₂ : List ℕ} {at m n : ℕ} {o p : List ℕ} → o ≡ p → PutAt b at o b₁ m → PutAt b at p b₂ n → (b₁ ≡ b₂) × (m ≡ n)
put_unique {b} {at} e u v = (
  u.written.stands ∙ ap (sets b at) e ∙ sym v.written.stands,
  u.ends ∙ ap (λ (l : List ℕ). at + length l) e ∙ sym v.ends,
)

pub answered_unique : {s : Sheet} {c : MadeCall} {b b₁ b₂ : List ℕ} {at m n : ℕ} {t₁ t₂ : Sheet} → Answered s c b at b₁ t₁ m → Answered s c b at b₂ t₂ n
    → (t₁ ≡ t₂) × (b₁ ≡ b₂) × (m ≡ n)
answered_unique u v =
    let s = said_unique u.said v.said in
    let w = put_unique (ap answer_bytes s.1) u.puts v.puts in
    (s.0, w.0, w.1)
