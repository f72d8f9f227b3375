-- `refusal` meets its contract: what its last tests say of the intervals in use. Assumes nothing.
use mathlib.Core.Path.{◌≡◌, refl, sym, ◌∙◌}
use mathlib.Core.Bool.{Bool, true, false, not}
use Prim.Native.Nat.{ℕ, ◌≤◌}
use native.Mathlib.Omega.{arith}
use Rattle.std.proofs.Common.{rules, length, take}
use Rattle.std.specs.List.{list_all}
use Rattle.word.specs.Word.{top}
use Rattle.span.specs.interval.Interval.{hollow, within}
use Rattle.span.specs.Join.{is_width}
use Rattle.span.specs.refusal.Refusal as join
use Rattle.net.specs.declared.Net.{Net}
use Rattle.net.specs.net_step.Named.{WORDS, word_at}
use Rattle.net.specs.net_tests.Fits.{every, fits}
use Rattle.net.specs.Net.{refusal}
use Rattle.net.specs.refusal.Refusal.{number_of, told}
use Rattle.net.proofs.Accepted.{count_fits}
use Rattle.net.proofs.net_tests.Every.{whole_listed, within_listed}
use Rattle.net.proofs.Net.refusal.Goals as goal

-- places for all words and joins, and a width
module _ (net : Net) (l : length net.words ≡ WORDS) (fit : fits net.count net.joins net.joined ≡ true) (wide : is_width net.width ≡ true) where
  in_places : net.count ≤ length net.words
  in_places = omega (arith, l, count_fits net.count net.joins net.joined fit)

  module _ {t : ℕ} (is_t : t ≡ top net.width) {b : Bool} (is_b : b ≡ list_all (within t) (take net.count net.words)) where
    tested : every net.count (λ k. within (top net.width) (word_at net.words k)) ≡ b
    tested = within_listed (top net.width) net.count net.words in_places ∙ sym (rw is_t at is_b)

    outside : b ≡ false → 5 ≡ refusal net
    unfolding refusal
    outside e = rw (fit, wide, tested ∙ e) refl

    module _ (inside : b ≡ true) {h : Bool} (is_h : h ≡ list_all (λ w. not (hollow w)) (take net.count net.words)) where
      reversed : h ≡ false → 15 ≡ refusal net
      unfolding refusal
      reversed e =
          rw (fit, wide, tested ∙ inside, whole_listed net.count net.words in_places ∙ sym is_h ∙ e) refl

      none : h ≡ true → 0 ≡ refusal net
      unfolding refusal
      none e =
          rw (fit, wide, tested ∙ inside, whole_listed net.count net.words in_places ∙ sym is_h ∙ e) refl

pub returns-then-not-all_within : goal.returns-then-not-all_within
unfolding told number_of join.number_of
returns-then-not-all_within c =
    outside c.args.self (search rules) (sym c.fits-fit.ensures ∙ c.if-not-fit.false) (sym c.is_width-wide.ensures ∙ c.if-not-wide.false)
    c.top-top.ensures c.all_within.ensures c.if-not-all_within.true

pub returns-then-not-none_hollow : goal.returns-then-not-none_hollow
unfolding told number_of join.number_of
returns-then-not-none_hollow c =
    reversed c.args.self (search rules) (sym c.fits-fit.ensures ∙ c.if-not-fit.false) (sym c.is_width-wide.ensures ∙ c.if-not-wide.false)
    c.top-top.ensures c.all_within.ensures c.if-not-all_within.false c.none_hollow.ensures c.if-not-none_hollow.true

pub returns : goal.returns
unfolding told
returns c =
    none c.args.self (search rules) (sym c.fits-fit.ensures ∙ c.if-not-fit.false) (sym c.is_width-wide.ensures ∙ c.if-not-wide.false)
    c.top-top.ensures c.all_within.ensures c.if-not-all_within.false c.none_hollow.ensures c.if-not-none_hollow.false
