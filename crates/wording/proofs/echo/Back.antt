-- What is written for a rule reads back as that rule, with a name before it and without: its pieces are followed from the start of the line or
-- from after the name's colon, and they say just that rule. Assumes nothing.
use mathlib.Core.Path.{◌≡◌, refl, ap, ◌∙◌}
use mathlib.Core.Bool.{true, false}
use mathlib.Core.List.{List, ◌∷◌, ◌++◌}
use Prim.Native.Nat.{ℕ, suc, ◌+◌, ◌≤◌}
use native.Mathlib.Nat.{zero-add}
use native.Mathlib.Omega.{arith}
use borrow.Author.Tests.{le-ltb}
use lib.ListN.{length, length-append}
use lib.Pow.{pow_mono}
use Rattle.word.specs.Word.{IsWidth}
use Rattle.word.proofs.Widths.{top-suc}
use Rattle.rule.specs.declared.Rule.{Rule}
use Rattle.rule.specs.accept.Accept.{acceptable}
use Rattle.digits.specs.declared.numeral.Numeral.{Numeral}
use Rattle.digits.specs.numeral.Numeral.{digit, next, start, value_of}
use Rattle.std.specs.Prelude.{Some, None}
use Rattle.line.specs.grammar.Grammar.{NAME_ROW, ROWS, agree, follow, goes_on, is_watts, kind_of, place, row_at}
use Rattle.line.specs.grammar.Kinds.{packed}
use Rattle.line.specs.declared.grammar.kind.Kind.{Kind}
use Rattle.line.specs.declared.grammar.kind.Kind.TheVariants as kinds
use Rattle.line.specs.declared.token.class.Class.TheVariants.{Blank, Sign, Word}
use Rattle.line.specs.token.Token.{begun, class_of, is_blank, is_sign, is_word, kind, text_kind, token}
use Rattle.line.specs.token.Token as tokens
use Rattle.line.specs.declared.scan.Scan.{Scan}
use Rattle.line.specs.scan.Scan.{amount, is_number, placed, scan, started, with_token}
use Rattle.line.specs.scanning.Scanning.{accepted, closed, followed, scanned, step, steps}
use Rattle.line.specs.scan.Scan as sofar
use Rattle.line.specs.line_end.End.{end_of}
use Rattle.line.specs.Line.{LIMIT, read}
use Rattle.wording.specs.Wording.{ROOM, rule_text}
use Rattle.wording.proofs.Sizes.{few_rule}
use Rattle.wording.specs.echo.Echo.{IsName, named, says, unnamed}
use Rattle.wording.proofs.echo.Accepted as rules
use Rattle.wording.proofs.echo.Pieces.{follows}
use Rattle.wording.proofs.echo.Rows.{Opening, line_of, opened}
use Rattle.wording.proofs.echo.Tokens.{steps_more}
use Rattle.wording.proofs.echo.Worded.{worded}

-- the start of a line that ends at a place, and what it says at another
abbrev at_start : (end last : ℕ) → Opening
at_start end last =
    record { token = token Blank 0 0 start; name = unnamed; first = amount 0; second = amount 0; at = 0; end = end; last = last }

-- after a name that ends at a place, its colon and a blank
abbrev at_rule : (to end last : ℕ) → Opening
at_rule to end last =
    record { token = begun Blank 32 (suc to); name = Some (record { from = 0; to = to }); first = amount 0; second = amount 0; at = suc (suc to); end = end; last = last }

-- the colon ends the name
abbrev at_colon : (to : ℕ) → Scan
at_colon to =
    scan (begun Sign 58 to) (place NAME_ROW 1 ROWS) false (Some (record { from = 0; to = to })) (amount 0) (amount 0) None

ends_name : (text : ℕ) (n : Numeral) (to : ℕ) → kind (token Word 0 text n) false ≡ kinds.Name → step (with_token started (token Word 0 text n)) 58 to ≡ at_colon to
unfolding step closed with_token accepted followed sofar.named is_number started class_of is_word is_sign is_blank agree goes_on follow is_watts
ends_name text n to e = ap (λ (k : Kind). with_token (accepted (with_token started (token Word 0 text n)) k to) (begun Sign 58 to)) e

-- and the blank ends the colon
ends_colon : (to end last : ℕ) → step (at_colon to) 32 (suc to) ≡ opened true (at_rule to end last)
unfolding step closed with_token accepted followed placed begun tokens.opened class_of is_word is_sign is_blank agree goes_on follow is_watts row_at kind text_kind kind_of packed next digit value_of
ends_colon to end last = refl

after_name : (a : List ℕ) → IsName a → (l : List ℕ) (end last : ℕ) → steps started 0 (a ++ 58 ∷ 32 ∷ l) ≡ steps (opened true (at_rule (length a) end last)) (suc (suc (length a))) l
unfolding steps
after_name a n l end last =
    let to = length a in
    steps_more started 0 a (58 ∷ 32 ∷ l)
    ∙ ap (λ (k : ℕ). steps (steps started 0 a) k (58 ∷ 32 ∷ l)) (zero-add to)
    ∙ ap (λ (s : Scan). steps (step (step s 58 to) 32 (suc to)) (suc (suc to)) l) n.word
    ∙ ap (λ (s : Scan). steps (step s 32 (suc to)) (suc (suc to)) l) (ends_name n.text n.numeral to n.name)
    ∙ ap (λ (s : Scan). steps s (suc (suc to)) l) (ends_colon to end last)

module _ (w : ℕ) (width : IsWidth w) (r : Rule) (ok : acceptable w r ≡ true) where
  short : length (rule_text w r) ≤ ROOM
  short =
      let a = rules.accepted w r ok in
      let m = pow_mono {i = w} {j = 64} width.high in
      few_rule w r width.high (omega (arith, a.c1_word, top-suc w)) (omega (arith, a.c2_word, top-suc w))

  -- for every width and every rule that a sheet accepts there, its text reads back as that rule and no name
  pub reads_back : read w (rule_text w r) ≡ says unnamed r
  unfolding read scanned started
  reads_back =
      let q = worded w width r (rules.accepted w r ok) in
      let end = length (rule_text w r) in
      let last = end_of (rule_text w r) in
      rw (le-ltb LIMIT end (omega (arith, short)))
      (ap (λ (l : List ℕ). line_of w (closed (steps started 0 l) end) last) q.text
      ∙ ap (λ (s : Scan). line_of w s last) (follows started 0 q.piece q.pieces end refl q.right)
      ∙ q.says false (at_start end last))

  -- and with a name before it as that rule and that name, in a line that is not too long
  pub reads_back_named : (a : List ℕ) → IsName a → length a + 2 + ROOM ≤ LIMIT → read w (a ++ 58 ∷ 32 ∷ rule_text w r) ≡ says (named a) r
  unfolding read scanned begun tokens.opened
  reads_back_named a n h =
      let q = worded w width r (rules.accepted w r ok) in
      let text : List ℕ = 58 ∷ 32 ∷ rule_text w r in
      let end = length (a ++ text) in
      let last = end_of (a ++ text) in
      rw (le-ltb LIMIT end (omega (arith, short, length-append a text)))
      (ap (λ (s : Scan). line_of w (closed s end) last) (after_name a n (rule_text w r) end last)
      ∙ ap (λ (l : List ℕ). line_of w (closed (steps (opened true (at_rule (length a) end last)) (suc (suc (length a))) l) end) last) q.text
      ∙ ap (λ (s : Scan). line_of w s last) (follows (opened true (at_rule (length a) end last)) (suc (suc (length a))) q.piece q.pieces end refl q.right)
      ∙ q.says true (at_rule (length a) end last))
