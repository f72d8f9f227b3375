-- A link as the desk writes it (`frame::fields: Answers`, `link_line`), in either edition.
use Rattle.std.specs.Prelude.{Bool, ◌&&◌, cond, List, ℕ, ◌+◌, ◌-◌, eqb, get_or, length, take, Option, Some, None}
use Rattle.std.proofs.Math.Seq.{slice}
use Rattle.word.specs.declared.Edition.{Edition}
use Rattle.word.specs.declared.Edition.TheVariants.{New, Old}
use Rattle.digits.specs.hexadecimal.Hex.{all_digits, number}
use Rattle.chain.specs.declared.Link.{Link}
use Rattle.chain.specs.Links.{link}
use Rattle.frame.specs.fields.Answers.{LINKED}
use Rattle.frame.specs.fields.Fields.{BYTE, WORD}

-- "`c0` from(8) to(8) reason(2)", and in the new edition 16 digits for a word: where each number begins, and where the line ends
abbrev pub to_at : ℕ → ℕ
to_at d = BYTE + d

abbrev pub reason_at : ℕ → ℕ
reason_at d = to_at d + d

abbrev pub end_of : ℕ → ℕ
end_of d = reason_at d + BYTE

-- a line is such a link: digits alone, as many as the edition has, of which the first two are `c0`
unfoldable pub is_link : Edition → List ℕ → Bool
is_link e l = eqb (length l) (end_of (WORD e)) && (all_digits l && eqb (number (take BYTE l)) LINKED)

-- the link, where words have so many digits
unfoldable pub link_of : ℕ → List ℕ → Link
link_of d l =
    link (number (slice BYTE (to_at d) l)) (number (slice (to_at d) (reason_at d) l)) (number (slice (reason_at d) (end_of d) l))

-- where a line ends that may end in byte 13, before its byte 10
unfoldable pub bare_end : List ℕ → ℕ
bare_end l = cond (eqb (get_or l (length l - 1) 0) 13) (length l - 1) (length l)

-- the line without it
unfoldable pub bare : List ℕ → List ℕ
bare l = take (bare_end l) l

-- the link that a line is, of the old edition or of the new one
unfoldable pub link_in : List ℕ → Option Link
link_in l =
    cond (is_link Old (bare l)) (Some (link_of (WORD Old) (bare l)))
    (cond (is_link New (bare l)) (Some (link_of (WORD New) (bare l)))
    None)
