-- `stretch` meets its contract: the first word that passes, and whether all do, tell the cell. Assumes nothing.
use mathlib.Core.Path.{◌≡◌, sym, ◌∙◌}
use mathlib.Core.Bool.{Bool}
use Prim.Native.Nat.{ℕ, suc, ◌-◌}
use native.Mathlib.Omega.{arith}
use lib.ListN.{take}
use Rattle.word.specs.Word.{top}
use Rattle.word.specs.Search.{first}
use Rattle.search.specs.rows.route.Bands.{all_seen, passes}
use Rattle.search.specs.rows.route.Rows.{bands_in}
use Rattle.picture.proofs.shade.Words.{each_word, later_word, no_word, some_word}
use Rattle.picture.proofs.shade.stretch.Goals.{After-sweep, Start}
use Rattle.picture.proofs.shade.stretch.Goals as goal

-- what a word has to pass
abbrev test : Start → ℕ → Bool
test s = passes (take s.args.force.count (bands_in s.args.rows.now)) s.args.force.fixed

swept : (w : After-sweep) → w.sweep.result ≡ first (passes (take w.args.force.count (bands_in w.args.rows.now)) w.args.force.fixed) (suc (top w.args.force.width.bits) - w.args.words.from) w.args.words.from
unfolding all_seen
swept w = w.sweep.ensures

pub sweep-requires : goal.sweep-requires
sweep-requires c = record { width = c.requires.width; start_bound = (omega (arith, c.requires.tidy.1, c.requires.tidy.2), c.requires.lie); tidy = c.requires.tidy.0 }

pub returns-in_default : goal.returns-in_default
returns-in_default c =
    no_word (test (goal.at.returns-in_default c).Start) c.args.words.from c.args.words.to (top c.args.force.width.bits) c.requires.tidy.2 (sym (swept (goal.at.returns-in_default c).After-sweep) ∙ c.in_default.is)

pub returns-then-words-x : goal.returns-then-words-x
returns-then-words-x c =
    later_word (test (goal.at.returns-then-words-x c).Start) c.args.words.from c.args.words.to (top c.args.force.width.bits) c.requires.tidy.2 _ (sym (swept (goal.at.returns-then-words-x c).After-sweep) ∙ c.in-Some.is) (omega (arith, c.if-words-x.true))

pub all_pass-requires : goal.all_pass-requires
all_pass-requires c = record { width = c.requires.width; lie = c.requires.lie; tidy = c.requires.tidy }

pub returns-then-all_pass : goal.returns-then-all_pass
returns-then-all_pass c =
    each_word (test (goal.at.returns-then-all_pass c).Start) c.args.words.from c.args.words.to (top c.args.force.width.bits) c.requires.tidy.2 _ (sym (swept (goal.at.returns-then-all_pass c).After-sweep) ∙ c.in-Some.is) (omega (arith, c.if-words-x.false))
    (sym c.all_pass.ensures ∙ c.if-all_pass.true)

pub returns : goal.returns
returns c =
    some_word (test (goal.at.returns c).Start) c.args.words.from c.args.words.to (top c.args.force.width.bits) c.requires.tidy.2 _ (sym (swept (goal.at.returns c).After-sweep) ∙ c.in-Some.is) (omega (arith, c.if-words-x.false))
    (sym c.all_pass.ensures ∙ c.if-all_pass.false)
