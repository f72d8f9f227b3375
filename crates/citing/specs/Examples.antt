-- Lines of a chain as one table: the line, and what it says, read off docs/VET.md and the paper's frame of a link by hand.
use Rattle.std.specs.Prelude.{List, [], ◌∷◌, ℕ}
use Rattle.digits.specs.hexadecimal.Text.{bytes_of}
use Rattle.chain.specs.Links.{link}
use Rattle.line.specs.declared.grammar.kind.Kind.TheVariants as kinds
use Rattle.line.specs.Line.{mistake}
use Rattle.citing.specs.declared.Citation.{Citation}
use Rattle.citing.specs.declared.Citation.TheVariants.{Named, Nothing, Numbered, Wrong}
use Rattle.citing.specs.Citation.{name}

pub record Example : Type 0 where
  pub line : List ℕ
  pub says : Citation

abbrev example : List ℕ → Citation → Example
example l c = record { line = l; says = c }

unfoldable pub examples : List Example
examples =
    example (bytes_of "0 3 bits # not 01") (Numbered (link 0 3 255))
    ∷ example (bytes_of "2 0xa late") (Named (link 2 10 0) (name 6 10))
    ∷ example (bytes_of "0b1000 13 2") (Numbered (link 8 13 2))
    -- a link as the desk writes it, in the old edition and in the new one
    ∷ example (bytes_of "c0000000010000000a03") (Numbered (link 1 10 3))
    ∷ example (bytes_of "c00000000000000001000000000000000aff") (Numbered (link 1 10 255))
    ∷ example (bytes_of "# 0 3 bits") Nothing
    ∷ example [] Nothing
    -- the first word that should be something else
    ∷ example (bytes_of "late 3 2") (Wrong (mistake 0 kinds.Number))
    ∷ example (bytes_of "0 late 2") (Wrong (mistake 2 kinds.Number))
    ∷ example (bytes_of "0 3") (Wrong (mistake 3 kinds.Rule))
    ∷ example (bytes_of "0 3 2 4") (Wrong (mistake 6 kinds.End))
    ∷ []
