-- What vetting a list answers and writes: the statement of the batch call, in numbers.
use Rattle.std.specs.Prelude.{◌≡◌, List, [], ◌∷◌, ℕ, length}
use Rattle.rule.specs.declared.Rule.{Rule}
use Rattle.page.specs.declared.Opening.{Opening}
use Rattle.sheet.specs.Statements.{overlaid}
use Rattle.batch.specs.declared.course.Batch.{Batch}
use Rattle.batch.specs.course.Batch.{batch}

-- the verdict, the smallest and the largest word, how many links, and the place
abbrev pub vet_numbers : Batch → List ℕ
vet_numbers a = a.reply.kept.verdict ∷ a.reply.kept.smallest ∷ a.reply.kept.largest ∷ a.reply.links ∷ a.place ∷ []

pub record Vetted (g : Opening) (us : List Rule) (b b' ns : List ℕ) (r : ℕ) : Type 0 where
  pub number : r ≡ (batch g us (length b)).answer.reply.number
  pub answer : ns ≡ vet_numbers (batch g us (length b)).answer
  pub links : b' ≡ overlaid (batch g us (length b)).chain b
