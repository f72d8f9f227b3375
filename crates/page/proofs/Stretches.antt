-- A stretch is one mark with the rules written after it, the newest first: what a step back strikes. What it strikes and what it leaves
-- make what stood; and a stretch written back is what the next step back strikes. So with every waiting stretch written back the rules
-- are those that stand and then those that wait, and each waiting mark notes the rules above it. By induction on the entries and on
-- the pile. Assumes nothing.
use mathlib.Core.Path.{◌≡◌, refl, sym, ap, ap₂, ◌∙◌}
use mathlib.Core.List.{List, [], ◌∷◌, ◌++◌, append_assoc, append-nil}
use Prim.Native.Nat.{ℕ, zero, suc, ◌+◌, ◌≤◌, ◌<◌}
use native.Mathlib.Omega.{arith}
use lib.ListN.{length, length-append}
use lib.Seq.{append_snoc}
use Rattle.rule.specs.declared.Rule.{Rule}
use Rattle.page.specs.Page.{Entry, a_mark, a_rule, marks_on, restored, rules_on, stretch, struck}

pub data Stretch : List Entry → Type 0 where
  its_mark : Stretch (a_mark ∷ [])
  its_rule : (r : Rule) {s : List Entry} → Stretch s → Stretch (a_rule r ∷ s)

abbrev pub Stretches : List (List Entry) → Type 0
Stretches [] = Unit {0}
Stretches (s ∷ ss) = Stretch s × Stretches ss

-- ---- what a step back strikes and leaves

pub stretch-struck : (es : List Entry) → stretch es ++ struck es ≡ es
unfolding stretch struck
stretch-struck [] = refl
stretch-struck (a_rule r ∷ es) = ap (λ (l : List Entry). a_rule r ∷ l) (stretch-struck es)
stretch-struck (a_mark ∷ es) = refl

pub is_stretch : (es : List Entry) → 0 < length (marks_on es) → Stretch (stretch es)
unfolding stretch marks_on
is_stretch [] some = absurd (omega arith)
is_stretch (a_rule r ∷ es) some = its_rule r (is_stretch es some)
is_stretch (a_mark ∷ es) some = its_mark

-- ---- a stretch written back

pub rules_more : (s es : List Entry) → rules_on (s ++ es) ≡ rules_on es ++ rules_on s
unfolding rules_on
rules_more [] es = sym (append-nil (rules_on es))
rules_more (a_rule r ∷ s) es = ap (λ (rs : List Rule). rs ++ r ∷ []) (rules_more s es) ∙ append_assoc (rules_on es) (rules_on s) (r ∷ [])
rules_more (a_mark ∷ s) es = rules_more s es

module _ (es : List Entry) where
  pub struck_again : {s : List Entry} → Stretch s → struck (s ++ es) ≡ es
  unfolding struck
  struck_again its_mark = refl
  struck_again (its_rule r h) = struck_again h

  pub stretch_again : {s : List Entry} → Stretch s → stretch (s ++ es) ≡ s
  unfolding stretch
  stretch_again its_mark = refl
  stretch_again (its_rule r h) = ap (λ (l : List Entry). a_rule r ∷ l) (stretch_again h)

  pub marks_more : {s : List Entry} → Stretch s → marks_on (s ++ es) ≡ marks_on es ++ length (rules_on es) ∷ []
  unfolding marks_on
  marks_more its_mark = refl
  marks_more (its_rule r h) = marks_more h

  pub stretch_marked : {s : List Entry} → Stretch s → 0 < length (marks_on (s ++ es))
  stretch_marked h = omega (arith, ap length (marks_more h), length-append (marks_on es) (length (rules_on es) ∷ []))

-- ---- what waits

-- the rules that wait, and the marks, the first of which has n rules above it
unfoldable pub waiting_rules : List (List Entry) → List Rule
waiting_rules [] = []
waiting_rules (s ∷ ss) = rules_on s ++ waiting_rules ss

unfoldable pub waiting_marks : ℕ → List (List Entry) → List ℕ
waiting_marks n [] = []
waiting_marks n (s ∷ ss) = n ∷ waiting_marks (n + length (rules_on s)) ss

pub waiting_many : (n : ℕ) (ss : List (List Entry)) → length (waiting_marks n ss) ≡ length ss
unfolding waiting_marks
waiting_many n [] = refl
waiting_many n (s ∷ ss) = ap suc (waiting_many (n + length (rules_on s)) ss)

pub restored_rules : (ss : List (List Entry)) (es : List Entry) → rules_on (restored ss es) ≡ rules_on es ++ waiting_rules ss
unfolding restored waiting_rules
restored_rules [] es = sym (append-nil (rules_on es))
restored_rules (s ∷ ss) es =
    restored_rules ss (s ++ es)
    ∙ ap (λ (rs : List Rule). rs ++ waiting_rules ss) (rules_more s es)
    ∙ append_assoc (rules_on es) (rules_on s) (waiting_rules ss)

pub restored_marks : (ss : List (List Entry)) (es : List Entry) → Stretches ss
    → marks_on (restored ss es) ≡ marks_on es ++ waiting_marks (length (rules_on es)) ss
unfolding restored waiting_marks
restored_marks [] es h = sym (append-nil (marks_on es))
restored_marks (s ∷ ss) es h =
    let n : length (rules_on (s ++ es)) ≡ length (rules_on es) + length (rules_on s) =
    ap length (rules_more s es) ∙ length-append (rules_on es) (rules_on s) in
    restored_marks ss (s ++ es) h.1
    ∙ ap₂ (λ (ms : List ℕ) (k : ℕ). ms ++ waiting_marks k ss) (marks_more es h.0) n
    ∙ append_snoc (marks_on es) (length (rules_on es)) (waiting_marks (length (rules_on es) + length (rules_on s)) ss)

pub restored_marked : (ss : List (List Entry)) (es : List Entry) → Stretches ss
    → length (marks_on (restored ss es)) ≡ length (marks_on es) + length ss
restored_marked ss es h =
    let n : ℕ = length (rules_on es) in
    omega (arith, ap length (restored_marks ss es h), length-append (marks_on es) (waiting_marks n ss), waiting_many n ss)

-- ---- so many stretches laid aside

pub record Parted (n : ℕ) (all : List Entry) : Type 0 where
  pub left : List Entry
  pub pile : List (List Entry)
  pub stretches : Stretches pile
  pub many : length pile ≡ n
  pub whole : restored pile left ≡ all

pub parted : (n : ℕ) (all : List Entry) → n ≤ length (marks_on all) → Parted n all
unfolding restored
parted zero all h = record { left = all; pile = []; stretches = tt; many = refl; whole = refl }
parted (suc n) all h =
    let p = parted n all (omega arith) in
    let some : 0 < length (marks_on p.left) =
    omega (arith, restored_marked p.pile p.left p.stretches, ap (λ (es : List Entry). length (marks_on es)) p.whole) in
    record {
      left = struck p.left;
      pile = stretch p.left ∷ p.pile;
      stretches = (is_stretch p.left some, p.stretches);
      many = ap suc p.many;
      whole = ap (restored p.pile) (stretch-struck p.left) ∙ p.whole;
    }

-- there is one way to lay them aside
pub one_pile : (ss ts : List (List Entry)) (es fs : List Entry) → Stretches ss → Stretches ts → length ss ≡ length ts → restored ss es ≡ restored ts fs
    → (es ≡ fs) × (ss ≡ ts)
unfolding restored
one_pile [] [] es fs h k n e = (e, refl)
one_pile [] (t ∷ ts) es fs h k n e = absurd (omega arith)
one_pile (s ∷ ss) [] es fs h k n e = absurd (omega arith)
one_pile (s ∷ ss) (t ∷ ts) es fs h k n e =
    let p = one_pile ss ts (s ++ es) (t ++ fs) h.1 k.1 (omega arith) e in (
      sym (struck_again es h.0) ∙ ap struck p.0 ∙ struck_again fs k.0,
      ap₂ ◌∷◌ (sym (stretch_again es h.0) ∙ ap stretch p.0 ∙ stretch_again fs k.0) p.1,
    )
