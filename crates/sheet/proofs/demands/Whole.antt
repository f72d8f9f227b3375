-- No second outcome of a call, or of asking, on a slate as one value: each is that on the record with the same numbers, and there is one record of
-- them. Assumes nothing.
use mathlib.Core.Path.{◌≡◌, refl, ap}
use mathlib.Core.List.{List}
use Prim.Native.Nat.{ℕ}
use Rattle.page.specs.Page.{at_width}
use Rattle.sheet.specs.slate.route.Held.{counted}
use Rattle.sheet.specs.declared.slate_make.Call.{Call}
use Rattle.sheet.specs.declared.slate_ask.Reply.{Reply}
use Rattle.sheet.specs.declared.slate_whole.Whole.{Whole}
use Rattle.sheet.specs.slate_whole.route.Whole.{AskedWhole, CalledWhole}
use Rattle.sheet.specs.declared.Answer.{Answer}
use Rattle.sheet.specs.declared.Sheet.{Sheet}
use Rattle.sheet.specs.route.Laid.{call_of}
use Rattle.sheet.proofs.ByValue.{asked_by_value, by_value}
use Rattle.sheet.proofs.demands.Unique.{asked_unique, outcome_unique}

-- a record's numbers, as a slate has them
abbrev whole_in : Sheet → Whole
whole_in s =
    record {
      opening = at_width s.width s.edition;
      counts = counted s.count s.marked s.given s.waiting;
      kept = s.kept;
      rules = s.rules;
      marks = s.marks;
    }

module _ (v : Whole) where
  pub one_call : (c : Call) {n m : ℕ} {v₁ v₂ : Whole} → CalledWhole v c n v₁ → CalledWhole v c m v₂ → (n ≡ m) × (v₁ ≡ v₂)
  one_call c p q =
      let same = outcome_unique _ (call_of c) (by_value v refl p refl) (by_value v refl q refl) in
      (ap (λ (r : Answer). r.number) same, ap (λ (r : Answer). whole_in r.sheet) same)

  pub one_answer : {b b₁ b₂ : List ℕ} {r₁ r₂ : Reply} → AskedWhole v b b₁ r₁ → AskedWhole v b b₂ r₂ → (r₁ ≡ r₂) × (b₁ ≡ b₂)
  one_answer p q = asked_unique (asked_by_value v refl p) (asked_by_value v refl q)
