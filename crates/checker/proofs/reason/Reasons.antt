-- The clauses on the reason of a link, case by case: each test of the code decides one of them, and those before it hold. The band of a rule
-- outside form 7 holds just the words that meet it, and the fixed bits are had by just the words that meet all form 7 rules.
-- Assumes nothing.
use mathlib.Core.Path.{◌≡◌, refl, sym, ap, ◌∙◌}
use mathlib.Core.Bool.{Bool, true, false, not, ◌||◌, cond}
use mathlib.Core.List.{List}
use Prim.Native.Nat.{ℕ, suc, ◌-◌, ◌≤◌, ◌<◌}
use native.Mathlib.Omega.{arith}
use lib.Dec.{eqb, ltb}
use lib.ListN.{length}
use Rattle.std.specs.Prelude.{Result, Ok, Err}
use Rattle.std.specs.Prelude.{Option}
use Rattle.std.specs.Prelude.{Some, None}
use Rattle.word.specs.Word.{top}
use Rattle.word.specs.Search.{first}
use Rattle.word.proofs.Search.{first_same}
use Rattle.rule.specs.declared.Rule.{Rule}
use Rattle.rule.specs.Meaning.{AllLawful, meets, meets7}
use Rattle.rule.specs.band.route.Band.{band_of, holds}
use Rattle.rule.proofs.band.Law.{band_law, bit_band}
use Rattle.rule.specs.bits.route.Fixed.{fixed_bits, has_bits}
use Rattle.rule.proofs.bits.Joined.{fixed_bits_lem}
use Rattle.chain.specs.declared.Link.{Link}
use Rattle.chain.specs.Links.{BITS, nth}
use Rattle.checker.proofs.covering.EveryWord.{misses}
use Rattle.checker.proofs.covering.Reasons.{lawful_at}
use Rattle.checker.specs.declared.finding.Breach.{Breach}
use Rattle.checker.specs.declared.finding.Breach.TheVariants.{BitRule, MeetsBits, MeetsRule, NoRule}
use Rattle.checker.specs.finding.Clauses.{first_broken, reason_clauses, smallest, the_word}
use Rattle.checker.proofs.reason.Meeting.{at_once, none_pass, some_pass}

abbrev err : Breach → Result Unit Breach
err f = Err f

-- ---- what its reason shows, by the tests: the number of a rule, 255, form 7, and whether every word misses

module _ (w : ℕ) (rs : List Rule) (i : ℕ) (l : Link) where
  abbrev r : Rule
  r = nth rs l.reason

  by_reason : (a b c d g : Bool) → Result Unit Breach
  by_reason a b c d g =
      cond (a || b)
      (cond (not a || not c)
      (cond (not a || d) (cond (not b || g) (Ok tt) (Err (MeetsBits i (smallest (meets7 w rs) l)))) (Err (MeetsRule i (smallest (meets w r) l))))
      (Err (BitRule i)))
      (Err (NoRule i))

  reasons_as : {a b c d g : Bool} → ltb l.reason (length rs) ≡ a → eqb l.reason BITS ≡ b → eqb r.form 7 ≡ c
      → misses (meets w r) l.from l.to ≡ d → misses (meets7 w rs) l.from l.to ≡ g → by_reason a b c d g ≡ first_broken (reason_clauses w rs i l)
  unfolding first_broken reason_clauses by_reason
  reasons_as p q s u v = sym (λ k. by_reason (p k) (q k) (s k) (u k) (v k))

  module _ (other : ltb l.reason (length rs) ≡ false) where
    pub no_rule : eqb l.reason BITS ≡ false → Err (NoRule i) ≡ first_broken (reason_clauses w rs i l)
    unfolding by_reason
    no_rule e = reasons_as other e refl refl refl

    pub bits_missed : eqb l.reason BITS ≡ true → first (meets7 w rs) (suc l.to - l.from) l.from ≡ None → Ok tt ≡ first_broken (reason_clauses w rs i l)
    unfolding by_reason
    bits_missed e n = reasons_as other e refl refl (none_pass (meets7 w rs) l.from l.to n)

    pub bits_met : (x : ℕ) → eqb l.reason BITS ≡ true → first (meets7 w rs) (suc l.to - l.from) l.from ≡ Some x → Err (MeetsBits i x) ≡ first_broken (reason_clauses w rs i l)
    unfolding by_reason smallest the_word
    bits_met x e n =
        ap (λ (o : Option ℕ). err (MeetsBits i (the_word o))) (sym n) ∙ reasons_as other e refl refl (some_pass (meets7 w rs) l.from l.to x n)

  module _ (named : ltb l.reason (length rs) ≡ true) where
    pub bit_rule : eqb r.form 7 ≡ true → Err (BitRule i) ≡ first_broken (reason_clauses w rs i l)
    unfolding by_reason
    bit_rule e = reasons_as named refl e refl refl

    pub rule_missed : eqb l.reason BITS ≡ false → eqb r.form 7 ≡ false → first (meets w r) (suc l.to - l.from) l.from ≡ None
        → Ok tt ≡ first_broken (reason_clauses w rs i l)
    unfolding by_reason
    rule_missed b e n = reasons_as named b e (none_pass (meets w r) l.from l.to n) refl

    pub rule_met : (x : ℕ) → eqb r.form 7 ≡ false → first (meets w r) (suc l.to - l.from) l.from ≡ Some x → Err (MeetsRule i x) ≡ first_broken (reason_clauses w rs i l)
    unfolding by_reason smallest the_word
    rule_met x e n =
        ap (λ (o : Option ℕ). err (MeetsRule i (the_word o))) (sym n) ∙ reasons_as named refl e (some_pass (meets w r) l.from l.to x n) refl

-- ---- the words that bands and bits find

module _ (w : ℕ) (width : 1 ≤ w) (rs : List Rule) (lawful : AllLawful w rs) (p q : ℕ) (word : q ≤ top w) where
  pub by_band : (i : ℕ) → i < length rs → ((nth rs i).form ≡ 7 → ⊥) → first (holds (band_of w (nth rs i))) (suc q - p) p ≡ first (meets w (nth rs i)) (suc q - p) p
  by_band i h n = first_same _ _ (suc q - p) p (λ y a b. band_law w width (nth rs i) (lawful_at w rs i h lawful) y (omega arith) n)

  pub by_bits : first (has_bits (fixed_bits rs)) (suc q - p) p ≡ first (meets7 w rs) (suc q - p) p
  by_bits = first_same _ _ (suc q - p) p (λ y a b. fixed_bits_lem w rs y lawful)

  -- every word has the band of a form 7 rule
  pub bits_first : (i : ℕ) → i < length rs → p ≤ q → (nth rs i).form ≡ 7 → Some p ≡ first (holds (band_of w (nth rs i))) (suc q - p) p
  bits_first i h o e =
      at_once (holds (band_of w (nth rs i))) p q (top w) o word (bit_band w width (nth rs i) (lawful_at w rs i h lawful) p (omega arith) e)
