-- `shows` meets its contract: the rule and the band at the reason's place are those of the rule that is named, and 255 is no rule's
-- number. Assumes nothing.
use mathlib.Core.Path.{◌≡◌, sym, ap, ◌∙◌, subst, subst₂}
use mathlib.Core.Bool.{true, false}
use mathlib.Core.List.{List}
use Prim.Native.Nat.{ℕ, suc, ◌-◌, ◌<◌}
use native.Mathlib.Omega.{arith}
use borrow.Author.Tests.{eq-eqb, le-ltb, lt-ltb, ne_eqb}
use lib.Dec.{eqb, ltb}
use lib.ListN.{get_or, length, take}
use lib.Seq.{get_or-take}
use Rattle.word.specs.Word.{top}
use Rattle.std.specs.Prelude.{Some, None}
use Rattle.word.specs.Search.{first}
use Rattle.rule.specs.declared.Rule.{Rule}
use Rattle.rule.specs.Meaning.{meets, meets7, rule}
use Rattle.rule.specs.declared.band.Band.{Band}
use Rattle.rule.specs.band.route.Band.{Laid, band_of, holds}
use Rattle.rule.specs.declared.bits.Fixed.{Fixed}
use Rattle.rule.specs.bits.route.Fixed.{has_bits}
use Rattle.chain.specs.Links.{BITS, nth}
use Rattle.search.specs.rows.route.Bands.{blank_band, seen}
use Rattle.search.proofs.rows.Reading.{laid_take}
use Rattle.search.specs.rows.route.Rows.{bands_in, rules_in}
use Rattle.checker.proofs.covering.Reasons.{band_of_lem, rules_count}
use Rattle.checker.proofs.reason.Reasons.{bit_rule, bits_first, bits_met, bits_missed, by_band, by_bits, no_rule, rule_met, rule_missed}
use Rattle.checker.proofs.reason.shows.Goals.{After-band_at-band, After-having, After-held, After-struct_known-1, Else-rule_at-eq7, Start}
use Rattle.checker.proofs.reason.shows.Goals as goal

abbrev own : (s : Start) → List Rule
own s = take s.args.force.count (rules_in s.args.rows.now)

abbrev lying : (s : Start) → List Band
lying s = bands_in s.args.rows.now

count : (s : Start) → length (own s) ≡ s.args.force.count
count s = rules_count _ _ s.args.force.count (lying s) (own s) s.requires.lie s.requires.of_lawful.1.own

named : (s : Start) → s.args.link.reason < s.args.force.count → ltb s.args.link.reason (length (own s)) ≡ true
named s h = lt-ltb s.args.link.reason (length (own s)) (omega (arith, (count s)))

other : (s : Start) → (s.args.link.reason < s.args.force.count → ⊥) → ltb s.args.link.reason (length (own s)) ≡ false
other s h = le-ltb s.args.link.reason (length (own s)) (omega (arith, (count s)))

no_bits : (s : Start) → s.args.link.reason < s.args.force.count → eqb s.args.link.reason BITS ≡ false
no_bits s h = ne_eqb s.args.link.reason BITS (λ e. omega (arith, s.requires.lie.count))

one_laid : (s : Start) → s.args.link.reason < s.args.force.count → Laid (top s.args.force.width.bits) (get_or (lying s) s.args.link.reason blank_band)
one_laid s h =
    laid_take _ (lying s) s.args.force.count s.args.link.reason blank_band h (omega (arith, s.requires.lie.places, s.requires.lie.count)) s.requires.lie.laid

read-rule : (e : After-struct_known-1) → e.rule_at.result ≡ nth (take e.args.force.count (rules_in e.args.rows.now)) e.args.link.reason
read-rule e = e.rule_at.ensures ∙ (let the_rule-1 : e.args.link.reason < e.args.force.count → get_or (rules_in e.args.rows.now) e.args.link.reason (rule 0 0 0 0) ≡ nth (take e.args.force.count (rules_in e.args.rows.now)) e.args.link.reason = λ h. sym (get_or-take e.args.force.count (rules_in e.args.rows.now) e.args.link.reason (rule 0 0 0 0) h) in the_rule-1) e.if-reason-force.true

outside : (e : Else-rule_at-eq7) → (nth (take e.args.force.count (rules_in e.args.rows.now)) e.args.link.reason).form ≡ 7 → ⊥
outside e z = e.if-rule_at-eq7.false (ap (λ (r : Rule). r.form) (let read-rule-3 : e.rule_at.result ≡ nth (take e.args.force.count (rules_in e.args.rows.now)) e.args.link.reason = e.rule_at.ensures ∙ (let the_rule-2 : e.args.link.reason < e.args.force.count → get_or (rules_in e.args.rows.now) e.args.link.reason (rule 0 0 0 0) ≡ nth (take e.args.force.count (rules_in e.args.rows.now)) e.args.link.reason = λ h. sym (get_or-take e.args.force.count (rules_in e.args.rows.now) e.args.link.reason (rule 0 0 0 0) h) in the_rule-2) e.if-reason-force.true in read-rule-3) ∙ z)

read : (b : After-band_at-band) → b.band_at-band.result ≡ get_or (bands_in b.args.rows.now) b.args.link.reason blank_band
unfolding seen
read b = b.band_at-band.ensures

-- what the band finds, and the smallest word that meets the rule
banded : (h : After-held) → h.held.result ≡ first (holds (band_of h.args.force.width.bits (nth (take h.args.force.count (rules_in h.args.rows.now)) h.args.link.reason))) (suc h.args.link.to - h.args.link.from) h.args.link.from
unfolding seen
banded h =
    h.held.ensures
    ∙ ap (λ (b : Band). first (holds b) (suc h.args.link.to - h.args.link.from) h.args.link.from)
    (h.band_at-band.ensures ∙ band_of_lem _ _ h.args.force.count (bands_in h.args.rows.now) (take h.args.force.count (rules_in h.args.rows.now)) h.requires.lie h.requires.of_lawful.1.own _ blank_band h.if-reason-force.true)

few : (h : After-held) → h.args.link.reason < length (take h.args.force.count (rules_in h.args.rows.now))
few h =
    let n = rules_count _ _ h.args.force.count (bands_in h.args.rows.now) (take h.args.force.count (rules_in h.args.rows.now)) h.requires.lie h.requires.of_lawful.1.own in
    omega (arith, n, h.if-reason-force.true)

meeting : (h : After-held) → ((nth (take h.args.force.count (rules_in h.args.rows.now)) h.args.link.reason).form ≡ 7 → ⊥)
    → first (holds (band_of h.args.force.width.bits (nth (take h.args.force.count (rules_in h.args.rows.now)) h.args.link.reason))) (suc h.args.link.to - h.args.link.from) h.args.link.from
    ≡ first (meets h.args.force.width.bits (nth (take h.args.force.count (rules_in h.args.rows.now)) h.args.link.reason)) (suc h.args.link.to - h.args.link.from) h.args.link.from
meeting h n =
    by_band _ h.requires.width.low (take h.args.force.count (rules_in h.args.rows.now)) h.requires.of_lawful.0 h.args.link.from h.args.link.to h.requires.tidy.2 h.args.link.reason (few h) n

-- where it finds none the rule is outside form 7
no_bit : (h : After-held) → h.held.result ≡ None → (nth (take h.args.force.count (rules_in h.args.rows.now)) h.args.link.reason).form ≡ 7 → ⊥
no_bit h e z =
    let a = bits_first _ h.requires.width.low (take h.args.force.count (rules_in h.args.rows.now)) h.requires.of_lawful.0 h.args.link.from h.args.link.to h.requires.tidy.2 h.args.link.reason (few h) h.requires.tidy.1 z in
    apart (a ∙ sym (banded h) ∙ e)
  where
    apart : {x : ℕ} → Some x ≡ None → ⊥
    apart d = cc

-- what the bits find is the smallest word that meets all form 7 rules
had : (h : After-having) → h.having.result ≡ first (meets7 h.args.force.width.bits (take h.args.force.count (rules_in h.args.rows.now))) (suc h.args.link.to - h.args.link.from) h.args.link.from
had h =
    h.having.ensures
    ∙ ap (λ (f : Fixed). first (has_bits f) (suc h.args.link.to - h.args.link.from) h.args.link.from) h.requires.of_lawful.1.bits
    ∙ by_bits _ h.requires.width.low (take h.args.force.count (rules_in h.args.rows.now)) h.requires.of_lawful.0 h.args.link.from h.args.link.to h.requires.tidy.2

pub returns-then-rule_at-eq7 : goal.returns-then-rule_at-eq7
returns-then-rule_at-eq7 c =
    bit_rule _ (own (goal.at.returns-then-rule_at-eq7 c).Start) c.args.number c.args.link (named (goal.at.returns-then-rule_at-eq7 c).Start c.if-reason-force.true)
    (eq-eqb _ 7 (sym (ap (λ (r : Rule). r.form) (read-rule (goal.at.returns-then-rule_at-eq7 c).After-struct_known-1)) ∙ c.if-rule_at-eq7.true))

pub band_at-band-requires : goal.band_at-band-requires
band_at-band-requires c = record { i_bound = omega (arith, c.requires.lie.count); laid = subst (λ (t : ℕ). Laid t (get_or (lying (goal.at.band_at-band-requires c).Start) c.args.link.reason blank_band)) (sym c.top-top.ensures) (one_laid (goal.at.band_at-band-requires c).Start c.if-reason-force.true) }

pub held-requires : goal.held-requires
held-requires c =
    (subst₂ Laid (sym c.top-top.ensures) (sym (read (goal.at.held-requires c).After-band_at-band)) (one_laid (goal.at.held-requires c).Start c.if-reason-force.true), c.requires.tidy.1, omega (arith, c.requires.tidy.2, c.top-top.ensures))

pub returns-in_default : goal.returns-in_default
returns-in_default c =
    let h = (goal.at.returns-in_default c).After-held in
    let s = (goal.at.returns-in_default c).Start in
    let n = no_bit h c.in_default.is in
    rule_missed _ (own s) c.args.number c.args.link (named s c.if-reason-force.true) (no_bits s c.if-reason-force.true) (ne_eqb _ 7 n) (sym (meeting h n) ∙ sym (banded h) ∙ c.in_default.is)

pub returns-then-reason-force : goal.returns-then-reason-force
returns-then-reason-force c =
    let h = (goal.at.returns-then-reason-force c).After-held in
    let s = (goal.at.returns-then-reason-force c).Start in
    let n = outside (goal.at.returns-then-reason-force c).Else-rule_at-eq7 in
    rule_met _ (own s) c.args.number c.args.link (named s c.if-reason-force.true) _ (ne_eqb _ 7 n) (sym (meeting h n) ∙ sym (banded h) ∙ c.in-Some.is)

pub returns-then-is_no_rule : goal.returns-then-is_no_rule
returns-then-is_no_rule c =
    no_rule _ (own (goal.at.returns-then-is_no_rule c).Start) c.args.number c.args.link (other (goal.at.returns-then-is_no_rule c).Start (λ h. omega (arith, h, c.if-reason-force.false))) (ne_eqb c.args.link.reason BITS (λ e. omega (arith, e, c.if-is_no_rule.true)))

pub returns-in_default-having : goal.returns-in_default-having
returns-in_default-having c =
    bits_missed _ (own (goal.at.returns-in_default-having c).Start) c.args.number c.args.link (other (goal.at.returns-in_default-having c).Start (λ t. omega (arith, t, c.if-reason-force.false))) (eq-eqb c.args.link.reason BITS (omega (arith, c.if-is_no_rule.false))) (sym (had (goal.at.returns-in_default-having c).After-having) ∙ c.in_default-having.is)

pub returns : goal.returns
returns c =
    bits_met _ (own (goal.at.returns c).Start) c.args.number c.args.link (other (goal.at.returns c).Start (λ t. omega (arith, t, c.if-reason-force.false))) _ (eq-eqb c.args.link.reason BITS (omega (arith, c.if-is_no_rule.false))) (sym (had (goal.at.returns c).After-having) ∙ c.in-Some-having.is)
