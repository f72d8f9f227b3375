-- "A further accepted rule never raises the count, lowers the smallest or raises the largest while words still fit, and never turns "none"
-- into another verdict." A word that fits all rules fits all but the new one, so that what fits now is among what fitted before. Assumes
-- nothing.
use mathlib.Core.Path.{◌≡◌, refl, sym, ap, ap₂, ◌∙◌, subst₂}
use mathlib.Core.Bool.{false, false≢true}
use mathlib.Core.List.{List, [], ◌∷◌, ◌++◌}
use Prim.Native.Nat.{ℕ, ◌^◌, ◌≤◌}
use native.Mathlib.Omega.{arith}
use Rattle.std.specs.Prelude.{Option}
use Rattle.std.specs.Prelude.{Some, None}
use Rattle.word.specs.declared.Edition.{Edition}
use Rattle.word.specs.Search.{first}
use Rattle.word.proofs.Searched.{first_is, first_nothing}
use Rattle.word.proofs.Widths.{top-suc}
use Rattle.rule.specs.declared.Rule.{Rule}
use Rattle.rule.specs.Meaning.{fits}
use Rattle.search.specs.verdict.Demand.{Fits}
use Rattle.search.specs.verdict.Kept.{kept}
use Rattle.search.proofs.verdict.Right.{kept_right}
use Rattle.gate.specs.declared.Gate.{Gate}
use Rattle.gate.specs.Gate.{gate_rules}
use Rattle.page.specs.Calls.{Call, add, after, changed, is_blank, refusal, rules_of, set_gate, written}
use Rattle.page.specs.Page.{Page, entries_of, no_page, page, rules_on, width_of}
use Rattle.page.specs.Reached.{Reached}
use Rattle.page.proofs.Gates.{blank_gate, with_rules_lem}
use Rattle.page.proofs.Refusals.{after_accepted, blank_add}
use Rattle.sheet.specs.declared.Answer.{Answer}
use Rattle.sheet.specs.declared.Sheet.{Sheet}
use Rattle.sheet.specs.Record.{fresh}
use Rattle.sheet.specs.Statements.{IsSheet, Outcome, Reads}
use Rattle.sheet.proofs.Tested.{sheet_dec}
use Rattle.sheet.proofs.demands.Demand.{after_reached}
use Rattle.counting.specs.fitting.Words.{how_many}
use Rattle.counting.specs.audit.Audit.{Narrowed, Narrower}
use Rattle.counting.proofs.audit.Answers.{asked_kept, counted_words}
use Rattle.counting.proofs.audit.Fitting.{count_fewer, fits_fewer}

-- ---- what is kept

-- unless the verdict is "none", a word fits
some_word : (w : ℕ) (rs : List Rule) → ((kept w rs).verdict ≡ 0 → ⊥) → (x : ℕ) × Fits w rs x
some_word w rs n = go (first (fits w rs) (2 ^ w) 0) refl
  where
    go : (f : Option ℕ) → first (fits w rs) (2 ^ w) 0 ≡ f → (x : ℕ) × Fits w rs x
    go (Some x) e =
        let f = first_is (fits w rs) (2 ^ w) 0 x e in
        (x, record { word = omega (arith, top-suc w); meets = f.passes })
    go None e =
        absurd
        (n
        ((kept_right w rs).none.1
        (λ x h. false≢true (sym (first_nothing (fits w rs) (2 ^ w) 0 e x (omega arith) (omega (arith, top-suc w, h.word))) ∙ h.meets))))

module _ (w : ℕ) (rs us : List Rule) where
  fitted_before : (x : ℕ) → Fits w (rs ++ us) x → Fits w rs x
  fitted_before x h = record { word = h.word; meets = fits_fewer w rs us x h.meets }

  narrower : Narrower (kept w rs) (kept w (rs ++ us))
  narrower =
      let before = kept_right w rs in
      let now = kept_right w (rs ++ us) in
      record {
        smallest = λ n. let f = some_word w (rs ++ us) n in (before.ends _ (fitted_before _ (now.ends f.0 f.1).0)).2;
        largest = λ n. let f = some_word w (rs ++ us) n in (before.ends _ (fitted_before _ (now.ends f.0 f.1).1)).3;
        none_stays = λ z. now.none.1 (λ x h. before.none.0 z x (fitted_before x h));
      }

  fewer : how_many w (rs ++ us) ≤ how_many w rs
  unfolding how_many
  fewer = count_fewer (fits w (rs ++ us)) (fits w rs) (fits_fewer w rs us) (2 ^ w) 0

-- ---- the page after an accepted add, or gate

-- the page stands open, before and after, with the same width and so many rules more
record WithMore (pg qg : Page) (us : List Rule) : Type 0 where
  open_before : is_blank pg ≡ false
  open_after : is_blank qg ≡ false
  width : width_of qg ≡ width_of pg
  rules : rules_of qg ≡ rules_of pg ++ us

rule_more : (pg : Page) (e : Edition) (u : Rule) → refusal pg (add e u) ≡ 0 → WithMore pg (after pg (add e u)) (u ∷ [])
unfolding written changed is_blank width_of rules_of entries_of rules_on
rule_more no_page e u z = absurd (omega (arith, blank_add e u))
rule_more (page o) e u z =
    let a = after_accepted (page o) (add e u) z in
    record { open_before = refl; open_after = ap is_blank a; width = ap width_of a; rules = ap rules_of a }

gate_more : (pg : Page) (g : Gate) → refusal pg (set_gate g) ≡ 0 → WithMore pg (after pg (set_gate g)) (gate_rules g)
unfolding written changed is_blank width_of rules_of entries_of
gate_more no_page g z = absurd (omega (arith, blank_gate g))
gate_more (page o) g z =
    let a = after_accepted (page o) (set_gate g) z in
    record { open_before = refl; open_after = ap is_blank a; width = ap width_of a; rules = ap rules_of a ∙ with_rules_lem (gate_rules g) o.entries }

narrowed : (pg qg : Page) {us : List Rule} → Reached pg → Reached qg → WithMore pg qg us → {s t : Sheet} → s ≡ fresh pg → t ≡ fresh qg → Narrowed s t
narrowed pg qg {us} h k more e d =
    record {
      kept = λ a c x y.
          subst₂ Narrower (sym (asked_kept pg h e a x)) (sym (asked_kept qg k d c y ∙ ap₂ kept more.width more.rules))
          (narrower (width_of pg) (rules_of pg) us);
      count = λ a c.
          subst₂ ◌≤◌ (sym (counted_words qg k d more.open_after c ∙ ap₂ how_many more.width more.rules))
          (sym (counted_words pg h e more.open_before a))
          (fewer (width_of pg) (rules_of pg) us);
    }

-- an accepted call that reads the record was made on a sheet, and what it leaves is the sheet of the page after it
reads_narrowed : {s : Sheet} (c : Call) {a : Answer} → Reads s c a → a.number ≡ 0 → (us : List Rule)
    → ((pg : Page) → refusal pg c ≡ 0 → WithMore pg (after pg c) us) → Narrowed s a.sheet
reads_narrowed {s} c {a} o z us more = go (sheet_dec s)
  where
    go : Dec (IsSheet s) → Narrowed s a.sheet
    go (yes h) =
        let q = o.on_page h.on h.reached h.gives in
        narrowed h.on (after h.on c) h.reached (after_reached h.reached c) (more h.on (sym (ap Answer.number q) ∙ z)) h.gives (ap Answer.sheet q)
    go (no n) = absurd (omega (arith, ap Answer.number (o.no_sheet n)))

-- ---- the auditors' sentence

pub more_rules : (s : Sheet) (e : Edition) (u : Rule) (a : Answer) → Outcome s (add e u) a → a.number ≡ 0 → Narrowed s a.sheet
unfolding Outcome
more_rules s e u a o z = reads_narrowed (add e u) o z (u ∷ []) (λ pg y. rule_more pg e u y)

-- the same of a gate, whose four rules come at once
pub more_gates : (s : Sheet) (g : Gate) (a : Answer) → Outcome s (set_gate g) a → a.number ≡ 0 → Narrowed s a.sheet
unfolding Outcome
more_gates s g a o z = reads_narrowed (set_gate g) o z (gate_rules g) (λ pg y. gate_more pg g y)
