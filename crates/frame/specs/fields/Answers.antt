-- How answers are written: "Every answer line ends in byte 10" (01, "Lines of hexadecimal").
use Rattle.std.specs.Prelude.{cond, List, [], ◌∷◌, ◌++◌, ℕ, zero, suc, ◌+◌, ◌*◌, eqb, drop, get_or}
use Rattle.word.specs.declared.Edition.{Edition}
use Rattle.rule.specs.Meaning.{RULES}
use Rattle.search.specs.declared.verdict.Kept.{Kept}
use Rattle.chain.specs.declared.Link.{Link}
use Rattle.chain.specs.Links.{most_links}
use Rattle.sheet.specs.declared.slate_ask.Reply.{Reply}
use Rattle.frame.specs.fields.Fields.{BYTE, DIGITS, Line, byte, digits_in, word}

abbrev pub NEWLINE : ℕ
NEWLINE = 10

-- the most bytes of a line on the verdict or on a link, and the most that a refusal or an acceptance has
abbrev pub LINE : ℕ
LINE = BYTE + BYTE + DIGITS + DIGITS + 1

abbrev pub SHORT : ℕ
SHORT = BYTE + BYTE + 1

-- how long an answer can be: the verdict, and the longest chain
abbrev pub ROOM : ℕ
ROOM = LINE + LINE * most_links RULES

-- what an answer's line begins with: accepted, refused, the verdict, a link
abbrev pub ACCEPTED : ℕ
ACCEPTED = 0x00

abbrev pub REFUSED : ℕ
REFUSED = 0xff

abbrev pub TOLD : ℕ
TOLD = 0xa0

abbrev pub LINKED : ℕ
LINKED = 0xc0

-- "10: a line of the program's input is none of the frames"
abbrev pub NO_FRAME : ℕ
NO_FRAME = 10

-- "`00` accepted; `ff` number(2) refused, in hexadecimal, so 10 is `ff0a`"
unfoldable pub number_line : ℕ → Line
number_line n = cond (eqb n 0) (byte ACCEPTED ∷ []) (byte REFUSED ∷ byte n ∷ [])

-- "`a0` verdict(2: 00 none, 01 one, 02 many) smallest(8) largest(8)"; a new sheet's "answers have 16-digit words"
abbrev pub kept_line : Edition → Kept → Line
kept_line e k = byte TOLD ∷ byte k.verdict ∷ word e k.smallest ∷ word e k.largest ∷ []

-- "`c0` from(8) to(8) reason(2)"
abbrev pub link_line : Edition → (from to reason : ℕ) → Line
link_line e from to reason = byte LINKED ∷ word e from ∷ word e to ∷ byte reason ∷ []

-- "a line a link"
unfoldable pub chain_lines : Edition → List Link → List Line
chain_lines e [] = []
chain_lines e (l ∷ ls) = link_line e l.from l.to l.reason ∷ chain_lines e ls

-- the lines of the first n links that a buffer holds, three numbers each: on the sheet of a page, `chain_lines` of its chain
unfoldable pub link_lines : Edition → ℕ → List ℕ → List Line
link_lines e zero b = []
link_lines e (suc n) b = link_line e (get_or b 0 0) (get_or b 1 0) (get_or b 2 0) ∷ link_lines e n (drop 3 b)

-- what is said of asking's reply, and of the buffer that it was lent
unfoldable pub ask_lines : Edition → Reply → List ℕ → List Line
ask_lines e r b = cond (eqb r.number 0) (kept_line e r.kept ∷ link_lines e r.links b) (number_line r.number ∷ [])

-- "Every answer line ends in byte 10."
unfoldable pub line_bytes : Line → List ℕ
line_bytes l = digits_in l ++ NEWLINE ∷ []

unfoldable pub answer_bytes : List Line → List ℕ
answer_bytes [] = []
answer_bytes (l ∷ ls) = line_bytes l ++ answer_bytes ls
