-- A call by value: what the call on the slate answers is the outcome on the record that was laid out. Assumes nothing.
use mathlib.Core.Path.{◌≡◌, refl, sym, ap, ◌∙◌, subst, subst₂}
use mathlib.Core.List.{List}
use Prim.Native.Nat.{ℕ}
use Rattle.page.specs.Calls.{open_at, refusal}
use Rattle.page.specs.declared.Opening.{Opening}
use Rattle.page.specs.Page.{no_page}
use Rattle.sheet.specs.declared.slate.Head.{Head}
use Rattle.sheet.specs.declared.slate_make.Call.{Call as Made}
use Rattle.sheet.specs.declared.slate_ask.Reply.{Reply}
use Rattle.sheet.specs.declared.slate_whole.Whole.{Whole}
use Rattle.sheet.specs.slate_whole.route.Whole.{AskedWhole, CalledWhole, whole_of}
use Rattle.sheet.specs.declared.Answer.{Answer}
use Rattle.sheet.specs.declared.Sheet.{Sheet}
use Rattle.sheet.specs.route.Held.{packed, sheet_of}
use Rattle.sheet.specs.route.Laid.{call_of}
use Rattle.sheet.specs.Statements.{Asked, Outcome, answers, opened}
use Rattle.sheet.proofs.Asking.{ask_after}
use Rattle.sheet.proofs.Made.{made_after}
use Rattle.sheet.proofs.Ways.{accepted_open, refused_open}

-- a slate and the value that it is as one stand for one record
same_record : (h : Head) (rows : List (List ℕ)) (marks : List ℕ) → packed h rows marks ≡ sheet_of (whole_of h rows marks)
unfolding packed whole_of
same_record h rows marks = refl

module _ {s : Sheet} (v : Whole) (same : sheet_of v ≡ s) where
  pub packed_whole : (h : Head) (rows : List (List ℕ)) (marks : List ℕ) → whole_of h rows marks ≡ v → packed h rows marks ≡ s
  packed_whole h rows marks e = same_record h rows marks ∙ ap sheet_of e ∙ same

  pub by_value : {c : Made} {n : ℕ} {v' : Whole} {t : Sheet} → CalledWhole v c n v' → t ≡ sheet_of v' → Outcome s (call_of c) (answers n t)
  by_value {c} {n} p e =
      let f = p.from in
      subst₂ (λ (u t : Sheet). Outcome u (call_of c) (answers n t)) (packed_whole f.head f.rows f.marks f.same)
      (same_record p.head p.rows p.marks ∙ ap sheet_of (sym p.left) ∙ sym e) (made_after f.held p.makes).outcome

  pub asked_by_value : {b b' : List ℕ} {r : Reply} → AskedWhole v b b' r → Asked s b b' r
  asked_by_value {b} {b'} {r} p =
      let f = p.from in
      subst (λ (u : Sheet). Asked u b b' r) (packed_whole f.head f.rows f.marks f.same) (ask_after f.held p.asks)

-- an opening is the same on any record
module _ (s t : Sheet) (g : Opening) (a : Answer) (outcome : Outcome t (open_at g) a) where
  same_number : refusal no_page (open_at g) ≡ a.number
  unfolding Outcome opened
  same_number = sym (ap (λ (r : Answer). r.number) outcome)

  pub handed_back : (a.number ≡ 0 → ⊥) → Outcome s (open_at g) (answers a.number s)
  unfolding Outcome
  handed_back z = refused_open s g same_number z

  pub opened_anew : a.number ≡ 0 → Outcome s (open_at g) a
  unfolding Outcome
  opened_anew z = let q = same_number ∙ z in outcome ∙ sym (accepted_open t g q) ∙ accepted_open s g q
