-- A line of a chain: `FROM TO RULE`, where RULE is a number, `bits` or a name; or a line that the desk writes for a link.
use Rattle.std.specs.Prelude.{Bool, true, false, not, cond, List, [], ◌∷◌, ℕ, eqb, ltb, length, Option, Some, None}
use Rattle.chain.specs.Links.{BITS, link}
use Rattle.chain.specs.declared.Link.{Link}
use Rattle.line.specs.declared.grammar.kind.Kind.{Kind}
use Rattle.line.specs.declared.grammar.kind.Kind.TheVariants as kinds
use Rattle.line.specs.grammar.Kinds.{packs, same}
use Rattle.line.specs.declared.scan.Name.{Name}
use Rattle.line.specs.Line.{LIMIT, mistake}
use Rattle.line.specs.declared.piece.Piece.{Piece}
use Rattle.line.specs.piece.Piece.{word_at}
use Rattle.citing.specs.linked.Linked.{link_in}
use Rattle.citing.specs.declared.Citation.{Citation}
use Rattle.citing.specs.declared.Citation.TheVariants.{Named, Nothing, Numbered, Wrong}

-- `bits`, its letters packed
abbrev pub BITS_TEXT : ℕ
BITS_TEXT = packs 0 (98 ∷ 105 ∷ 116 ∷ 115 ∷ [])

-- where a name stands
abbrev pub name : (from to : ℕ) → Name
name from to = record { from = from; to = to }

-- RULE is a number, the word `bits`, or a name, which stands for a rule at its place of the line
unfoldable pub cited : (from to : ℕ) → Piece → Citation
cited from to p =
    cond (same p.kind kinds.Number) (Numbered (link from to p.value))
    (cond (eqb p.text BITS_TEXT) (Numbered (link from to BITS))
    (Named (link from to 0) (name p.from p.to)))

-- a number or a name
unfoldable pub is_reason : Kind → Bool
is_reason kinds.Number = true
is_reason kinds.Name = true
is_reason k = false

unfoldable pub wrong_at : Piece → (expected : Kind) → Citation
wrong_at p e = Wrong (mistake p.from e)

-- the first four words of a line: a number, a number, a rule, and then nothing; a line without words says nothing, and another is wrong
-- at the first word that should be something else
unfoldable pub said : (first second third fourth : Piece) → Citation
said a b c d =
    cond (same a.kind kinds.End) Nothing
    (cond (not (same a.kind kinds.Number)) (wrong_at a kinds.Number)
    (cond (not (same b.kind kinds.Number)) (wrong_at b kinds.Number)
    (cond (not (is_reason c.kind)) (wrong_at c kinds.Rule)
    (cond (not (same d.kind kinds.End)) (wrong_at d kinds.End)
    (cited a.value b.value c)))))

-- the words of a line as a lab writes it
unfoldable pub lab_says : List ℕ → Citation
lab_says l =
    let a = word_at l 0 in
    let b = word_at l a.to in
    let c = word_at l b.to in
    said a b c (word_at l c.to)

-- a link that the desk wrote, or what a lab says
unfoldable pub or_lab : Option Link → List ℕ → Citation
or_lab (Some k) l = Numbered k
or_lab None l = lab_says l

-- a line, without its byte 10
unfoldable pub citation : List ℕ → Citation
citation l = cond (ltb LIMIT (length l)) (Wrong (mistake LIMIT kinds.ShorterLine)) (or_lab (link_in l) l)
