-- No two ways out of one call on a slate go together: two outcomes of it, by whatever ways, have one number, one head, the same rules and
-- marks, and the same bands of the rules given. Assumes nothing.
use mathlib.Core.Path.{◌≡◌, refl, sym, ap, ap₂, ◌∙◌}
use mathlib.Core.List.{List, map}
use Prim.Native.Nat.{ℕ, ◌+◌}
use native.Mathlib.Omega.{arith}
use lib.ListN.{take}
use Rattle.word.specs.declared.Edition.{Edition}
use Rattle.rule.specs.declared.Rule.{Rule}
use Rattle.rule.specs.band.route.Band.{band_of}
use Rattle.rule.specs.declared.bits.Fixed.{Fixed}
use Rattle.rule.specs.bits.route.Fixed.{fixed_bits}
use Rattle.search.specs.declared.verdict.Kept.{Kept}
use Rattle.search.specs.verdict.Kept.{kept}
use Rattle.page.specs.declared.Opening.{Opening}
use Rattle.search.specs.rows.route.Rows.{bands_in, rules_in}
use Rattle.sheet.specs.declared.slate.Counts.{Counts}
use Rattle.sheet.specs.declared.slate.Head.{Head}
use Rattle.sheet.specs.slate.route.Held.{Beside, head_of}
use Rattle.sheet.specs.slate.stepping.route.Steps.{Backs, Forwards, back_head, forward_head}
use Rattle.sheet.specs.slate.slate_calls.route.Done.{Adds, Marks, Opens, new_head, with_one}
use Rattle.sheet.specs.slate.slate_calls.route.Done.Adds.{added, refused}
use Rattle.sheet.specs.slate.stepping.route.Steps.Backs.{goes_back, stays}
use Rattle.sheet.specs.slate.stepping.route.Steps.Forwards.{goes_on, remains}
use Rattle.sheet.specs.slate.slate_calls.route.Done.Marks.{marked, unmarked}
use Rattle.sheet.specs.slate.slate_calls.route.Done.Opens.{narrow, opened, wide}
use Rattle.sheet.proofs.slate.stepping.Refusing.{no_refusal, one_number}

-- what two outcomes share: the number, the head, the rules and the marks, and the bands of the rules given
pub record Alike (n m : ℕ) (h k : Head) (rows rows' : List (List ℕ)) (marks marks' : List ℕ) : Type 0 where
  pub number : n ≡ m
  pub head : h ≡ k
  pub rules_too : rules_in rows ≡ rules_in rows'
  pub marks_too : marks ≡ marks'
  pub bands_too : take h.counts.given (bands_in rows) ≡ take h.counts.given (bands_in rows')

abbrev alike : {n m : ℕ} {h : Head} {rows : List (List ℕ)} {marks : List ℕ} → n ≡ m → Alike n m h h rows rows marks marks
alike e = record { number = e; head = refl; rules_too = refl; marks_too = refl; bands_too = refl }

-- of the same rules given, the same bands and the same bits
module _ {g : Opening} {c : Counts} {k k' : Kept} {f f' : Fixed} {rows rows' : List (List ℕ)} (b : Beside (head_of g c k f) rows) (b' : Beside (head_of g c k' f') rows')
    (same : rules_in rows ≡ rules_in rows') where
  same_bands : take c.given (bands_in rows) ≡ take c.given (bands_in rows')
  same_bands = b.drawn.own ∙ ap (λ (rs : List Rule). map (band_of g.width) (take c.given rs)) same ∙ sym b'.drawn.own

  same_bits : f ≡ f'
  same_bits = b.drawn.bits ∙ ap (λ (rs : List Rule). fixed_bits (take c.count rs)) same ∙ sym b'.drawn.bits

module _ {h : Head} {rows : List (List ℕ)} {marks : List ℕ} where
  pub one_opening : {g : Opening} {n n' : ℕ} {k k' : Head} {rs rs' : List (List ℕ)} {ms ms' : List ℕ} → Opens h rows marks g n k rs ms → Opens h rows marks g n' k' rs' ms'
      → Alike n n' k k' rs rs' ms ms'
  one_opening (narrow a) (narrow b) = alike refl
  one_opening (narrow a) (wide b) = alike refl
  one_opening (wide a) (narrow b) = alike refl
  one_opening (wide a) (wide b) = alike refl
  one_opening (narrow a) (opened j low high r m b e) = absurd (omega arith)
  one_opening (wide a) (opened j low high r m b e) = absurd (omega arith)
  one_opening (opened j low high r m b e) (narrow c) = absurd (omega arith)
  one_opening (opened j low high r m b e) (wide c) = absurd (omega arith)
  one_opening {g} (opened j low high r m b e) (opened i _ _ s l c d) =
      record { number = refl; head = ap (new_head g) (e ∙ sym d); rules_too = r ∙ sym s; marks_too = m ∙ sym l; bands_too = refl }

  pub one_add : {d : Edition} {u : Rule} {n n' : ℕ} {k k' : Head} {rs rs' : List (List ℕ)} {ms ms' : List ℕ} → Adds h rows marks d u n k rs ms → Adds h rows marks d u n' k' rs' ms'
      → Alike n n' k k' rs rs' ms ms'
  one_add (refused a p) (refused b q) = alike (a ∙ sym b)
  one_add (refused a p) (added j f e r m b q) = absurd (p (a ∙ e))
  one_add (added j f e r m b q) (refused a p) = absurd (p (a ∙ e))
  one_add (added j f e r m b q) (added i g _ s o c y) =
      let same = r ∙ sym s in
      record {
        number = refl;
        head = ap₂ (with_one h) (q ∙ ap (λ (z : List Rule). kept h.opening.width (take (h.counts.count + 1) z)) same ∙ sym y) (same_bits b c same);
        rules_too = same;
        marks_too = m ∙ sym o;
        bands_too = same_bands b c same;
      }

  pub one_mark : {n n' : ℕ} {k k' : Head} {rs rs' : List (List ℕ)} {ms ms' : List ℕ} → Marks h rows marks n k rs ms → Marks h rows marks n' k' rs' ms' → Alike n n' k k' rs rs' ms ms'
  one_mark (unmarked a) (unmarked b) = alike (one_number a b)
  one_mark (unmarked a) (marked e room r m b) = absurd (no_refusal e (λ l. omega arith) a)
  one_mark (marked e room r m b) (unmarked c) = absurd (no_refusal e (λ l. omega arith) c)
  one_mark (marked e room r m b) (marked d _ s l c) =
      record { number = refl; head = refl; rules_too = r ∙ sym s; marks_too = m ∙ sym l; bands_too = same_bands b c (r ∙ sym s) }

  pub one_step_back : {n n' : ℕ} {k k' : Head} → Backs h rows marks n k → Backs h rows marks n' k' → (n ≡ n') × (k ≡ k')
  one_step_back (stays a) (stays b) = (one_number a b, refl)
  one_step_back (stays a) (goes_back j f e z b q) = absurd (no_refusal e z a)
  one_step_back (goes_back j f e z b q) (stays c) = absurd (no_refusal e z c)
  one_step_back (goes_back j f e z b q) (goes_back i g _ _ c t) = (refl, ap₂ (back_head h marks) (q ∙ sym t) (same_bits b c refl))

  pub one_step_forward : {n n' : ℕ} {k k' : Head} → Forwards h rows marks n k → Forwards h rows marks n' k' → (n ≡ n') × (k ≡ k')
  one_step_forward (remains a) (remains b) = (one_number a b, refl)
  one_step_forward (remains a) (goes_on y j f e z o b q) = absurd (no_refusal e z a)
  one_step_forward (goes_on y j f e z o b q) (remains c) = absurd (no_refusal e z c)
  one_step_forward (goes_on y j f e z o b q) (goes_on x i g _ _ r c t) =
      let n = o ∙ sym r in
      let kept_too = q ∙ ap (λ (v : ℕ). kept h.opening.width (take v (rules_in rows))) n ∙ sym t in
      let fixed_too = b.drawn.bits ∙ ap (λ (v : ℕ). fixed_bits (take v (rules_in rows))) n ∙ sym c.drawn.bits in
      (refl, λ p. forward_head h (n p) (kept_too p) (fixed_too p))
