-- No second outcome satisfies what a statement promises: no second one satisfies that of its call. Assumes nothing.
use mathlib.Core.Path.{◌≡◌, refl, sym, ap, ap₂, ◌∙◌}
use Prim.Native.Nat.{ℕ}
use Rattle.std.specs.Prelude.{Ok, Err}
use native.Mathlib.Omega.{arith}
use Rattle.page.specs.Calls.{Call, add, back, forward, mark, open_at, set_gate}
use Rattle.page.specs.Page.{no_page, page}
use Rattle.page.specs.Reached.{start}
use Rattle.word.specs.declared.Edition.TheVariants.{New}
use Rattle.page.specs.Page.{at_width}
use Rattle.sheet.specs.declared.Answer.{Answer}
use Rattle.sheet.specs.declared.slate_ask.Reply.{Reply}
use Rattle.sheet.specs.declared.Sheet.{Sheet}
use Rattle.sheet.specs.route.Stands.{Stands, blank_sheet, no_sheet, on_page}
use Rattle.sheet.proofs.OnePage.{one_page}
use Rattle.sheet.proofs.demands.Unique.{asked_unique, outcome_unique}
use Rattle.counting.specs.declared.Share.{Share}
use Rattle.counting.proofs.Unique.{counted_unique}
use Rattle.listing.specs.declared.Listing.{Listing}
use Rattle.listing.proofs.Unique.{listed_unique}
use Rattle.listing.proofs.blaming.Unique.{blamed_unique}
use Rattle.line.specs.declared.Statement.{Statement}
use Rattle.line.specs.declared.Statement.TheVariants as said
use Rattle.dialogue.specs.declared.upshot.Response.TheVariants.{Asked, Blamed, Counted, Done, Listed, Shown}
use Rattle.dialogue.specs.upshot.Upshot.{Upshot, by_number}
use Rattle.dialogue.specs.saying.Says.{Calls, Gated, Lent, Says, Wanted, at_least, at_most, lent, up_to, within}

stands_unique : {s : Sheet} {k n : ℕ} → Stands s k → Stands s n → k ≡ n
stands_unique (no_sheet i) (no_sheet j) = refl
stands_unique (no_sheet i) (blank_sheet e) = absurd (i (record { on = no_page; reached = start; gives = e }))
stands_unique (no_sheet i) (on_page p) = absurd (i (record { on = page p.on; reached = p.reached; gives = p.gives }))
stands_unique (blank_sheet e) (no_sheet j) = absurd (j (record { on = no_page; reached = start; gives = e }))
stands_unique (blank_sheet e) (blank_sheet d) = refl
stands_unique (blank_sheet e) (on_page p) =
    let q : no_page ≡ page p.on = one_page start p.reached (sym e ∙ p.gives) in
    let z : ◌≡◌ {A = ℕ} 0 1 = cc in
    absurd (omega arith)
stands_unique (on_page p) (no_sheet j) = absurd (j (record { on = page p.on; reached = p.reached; gives = p.gives }))
stands_unique (on_page p) (blank_sheet e) =
    let q : no_page ≡ page p.on = one_page start p.reached (sym e ∙ p.gives) in
    let z : ◌≡◌ {A = ℕ} 0 1 = cc in
    absurd (omega arith)
stands_unique (on_page p) (on_page q) = refl

module _ (s : Sheet) (b b₁ b₂ : Lent) (r₁ r₂ : Upshot) where
  called : (c : Call) → Calls s c b b₁ r₁ → Calls s c b b₂ r₂ → (r₁ ≡ r₂) × (b₁ ≡ b₂)
  called c p q = (
    p.result ∙ ap (λ (a : Answer). by_number a.number a.sheet Done) (outcome_unique s c p.outcome q.outcome) ∙ sym q.result,
    p.untouched ∙ sym q.untouched,
  )

  same : {r : Upshot} → (r₁ ≡ r) × (b₁ ≡ b) → (r₂ ≡ r) × (b₂ ≡ b) → (r₁ ≡ r₂) × (b₁ ≡ b₂)
  same p q = (p.0 ∙ sym q.0, p.1 ∙ sym q.1)

  gated : (w : Wanted) → Gated s w b b₁ r₁ → Gated s w b b₂ r₂ → (r₁ ≡ r₂) × (b₁ ≡ b₂)
  unfolding Gated
  gated (Ok g) p q = called (set_gate g) p q
  gated (Err w) p q = same p q

  pub says_unique : (st : Statement) → Says s st b b₁ r₁ → Says s st b b₂ r₂ → (r₁ ≡ r₂) × (b₁ ≡ b₂)
  unfolding Says
  says_unique said.Blank p q = same p q
  says_unique (said.Rule u) p q = called (add New u) p q
  says_unique (said.AtLeast a) p q = gated (at_least a) p q
  says_unique (said.AtMost a) p q = gated (at_most a) p q
  says_unique (said.Within a c) p q = gated (within a c) p q
  says_unique (said.Open n) p q = called (open_at (at_width n New)) p q
  says_unique said.Mark p q = called mark p q
  says_unique said.Back p q = called back p q
  says_unique said.Forward p q = called forward p q
  says_unique said.Ask p q =
      let u = asked_unique p.asked q.asked in (
        p.result ∙ ap (λ (a : Reply). by_number a.number s (Asked a)) u.0 ∙ sym q.result,
        ap₂ lent u.1 (p.untouched ∙ sym q.untouched),
      )
  says_unique said.Count p q = (
    p.result ∙ ap (λ (a : Share). by_number a.number s (Counted a)) (counted_unique p.counted q.counted) ∙ sym q.result,
    p.untouched ∙ sym q.untouched,
  )
  says_unique (said.List l) p q =
      let u = listed_unique p.listed q.listed in (
        p.result ∙ ap (λ (a : Listing). by_number a.number s (Listed (up_to l.most a))) u.0 ∙ sym q.result,
        ap₂ lent (p.untouched ∙ sym q.untouched) u.1,
      )
  says_unique (said.Why x) p q =
      let u = blamed_unique p.blamed q.blamed in (
        p.result ∙ ap (λ (a : Listing). by_number a.number s (Blamed a)) u.0 ∙ sym q.result,
        ap₂ lent u.1 (p.untouched ∙ sym q.untouched),
      )
  says_unique said.Show p q = (
    p.0.result ∙ ap (λ (n : ℕ). by_number n s Shown) (stands_unique p.0.stands q.0.stands) ∙ sym q.0.result,
    p.1 ∙ sym q.1,
  )
  says_unique (said.Wrong w) p q = same p q
