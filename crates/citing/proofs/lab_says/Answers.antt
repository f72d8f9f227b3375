-- `lab_says` meets its contract: each word stands where the one before it ends. Assumes nothing.
use mathlib.Core.Path.{◌≡◌, ◌∙◌}
use mathlib.Core.List.{List}
use Prim.Native.Nat.{ℕ}
use Rattle.line.specs.declared.piece.Piece.{Piece}
use Rattle.line.specs.piece.Piece.{word_at}
use Rattle.citing.specs.Citation.{lab_says, said}
use Rattle.citing.proofs.lab_says.Goals as goal

-- what the words say that stand where they should
as_words : (l : List ℕ) (a b k d : Piece) → a ≡ word_at l 0 → b ≡ word_at l a.to → k ≡ word_at l b.to → d ≡ word_at l k.to → said a b k d ≡ lab_says l
unfolding lab_says
as_words l a b k d p q r s = cc

pub returns : goal.returns
returns c =
    c.said.ensures
    ∙ as_words c.args.line.now _ _ _ _ c.next-first.ensures c.next-second.ensures c.next-third.ensures c.next-fourth.ensures
