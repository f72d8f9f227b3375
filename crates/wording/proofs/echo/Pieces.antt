-- The pieces of a text, words, signs and numbers with a blank between, are followed along the grammar one by one: each is one token, the
-- blank after it ends it, and its kind is known. Assumes nothing.
use mathlib.Core.Path.{◌≡◌, refl, sym, ap, ◌∙◌}
use mathlib.Core.Bool.{Bool, true, false, false≢true, ◌&&◌, cond}
use mathlib.Core.List.{List, [], ◌∷◌, ◌++◌}
use Prim.Native.Nat.{ℕ, zero, suc, ◌+◌, ◌-◌, ◌/◌, ◌%◌, ◌^◌, ◌≤◌, ◌<◌}
use native.Mathlib.Decide.{dec_lt}
use native.Mathlib.Nat.{mod-lt}
use native.Mathlib.Omega.{arith}
use borrow.Author.Tests.{le-leb, le-ltb, lt-ltb, ne_eqb}
use lib.Dec.{eqb}
use lib.ListN.{get_or, length}
use Rattle.word.proofs.Tests.{both_pass}
use Rattle.digits.specs.hexadecimal.Hex.{glyph}
use Rattle.digits.specs.declared.numeral.Numeral.{Numeral}
use Rattle.digits.specs.declared.numeral.Stage.{Stage}
use Rattle.digits.specs.declared.numeral.Stage.TheVariants.{Bad, Digits, Start, Zero}
use Rattle.digits.specs.numeral.Digits.{digits, digits_in}
use Rattle.digits.specs.numeral.Numeral.{numeral, numeral_from, past_digit, start}
use Rattle.digits.proofs.numeral.Quotients.{digits_back, last_digit, length_more, minus_back}
use Rattle.line.specs.grammar.Grammar.{is_watts}
use Rattle.std.specs.Prelude.{is_some}
use Rattle.line.specs.declared.grammar.kind.Kind.{Kind}
use Rattle.line.specs.declared.grammar.kind.Kind.TheVariants.{Amount, Negative, Number}
use Rattle.line.specs.grammar.Kinds as kinds
use Rattle.line.proofs.grammar.Same as samekinds
use Rattle.line.specs.declared.token.Token.{Token}
use Rattle.line.specs.declared.token.class.Class.{Class}
use Rattle.line.specs.declared.token.class.Class.TheVariants.{Blank, Comment, Sign, Stray, Word}
use Rattle.line.specs.token.Token.{begun, class_of, is_blank, is_sign, is_word, kind, kind_of_number, opened, same, text_kind, token}
use Rattle.line.proofs.token.Classes.{not_same, same_one}
use Rattle.line.specs.declared.scan.Scan.{Scan}
use Rattle.line.specs.scan.Scan.{with_token}
use Rattle.line.specs.scanning.Scanning.{accepted, closed, step, steps}
use Rattle.digits.specs.phrase.Phrase.{decimal}
use Rattle.wording.proofs.echo.Tokens.{classed, one_token, single, steps_more, text_of}

-- a word or a sign by its kind, a number, or one below zero
pub data Piece : Type 0 where
  the : Kind → Piece
  number : ℕ → Piece
  below : ℕ → Piece

abbrev pub letters : Piece → List ℕ
letters (the k) = kinds.letters_of k
letters (number n) = decimal n
letters (below n) = 45 ∷ decimal n

-- pieces with a blank between
abbrev pub spaced : List Piece → List ℕ
spaced [] = []
spaced (p ∷ []) = letters p
spaced (p ∷ q ∷ ps) = letters p ++ 32 ∷ spaced (q ∷ ps)

-- the class of a piece, its token at a place, and its kind in a line that is or is not on watts
abbrev class_in : Piece → Class
class_in (the k) = opened (class_of (get_or (letters (the k)) 0 0))
class_in (number n) = Word
class_in (below n) = Word

abbrev numeral_in : Piece → Numeral
numeral_in (the k) = numeral_from start (letters (the k))
numeral_in (number n) = numeral (past_digit Start n) false 10 false n 0
numeral_in (below n) = numeral Digits true 10 false n 0

abbrev token_at : Piece → ℕ → Token
token_at p at = token (class_in p) at (text_of (letters p)) (numeral_in p)

abbrev kind_in : Piece → Bool → Kind
kind_in (the k) watts = k
kind_in (number n) watts = cond watts Amount Number
kind_in (below n) watts = cond watts Amount Negative

record Fine (p : Piece) : Type 0 where
  no_blank : class_in p ≡ Blank → ⊥
  no_comment : class_in p ≡ Comment → ⊥
  one : single (class_in p) (letters p) ≡ true
  reads : numeral_from start (letters p) ≡ numeral_in p
  kinds : (at : ℕ) (watts : Bool) → kind (token_at p at) watts ≡ kind_in p watts

-- ---- each piece is fine

-- letters of words and signs, and of no others
abbrev pub is_text : Class → Bool
is_text Word = true
is_text Sign = true
is_text c = false

text_not : (c d : Class) → is_text c ≡ true → is_text d ≡ false → c ≡ d → ⊥
text_not c d t f e = false≢true (sym f ∙ sym (ap is_text e) ∙ t)

abbrev pub is_bad : Stage → Bool
is_bad Bad = true
is_bad s = false

bad_one : (s : Stage) → is_bad s ≡ true → s ≡ Bad
bad_one Bad e = refl
bad_one s e = absurd (false≢true e)

-- what a word or a sign has to compute to: letters of one token, no number, and the text of its kind
abbrev is_one_token : Kind → Bool
is_one_token k = single (class_in (the k)) (letters (the k))

abbrev no_number : Kind → Bool
no_number k = is_bad (numeral_in (the k)).stage

abbrev of_kind : Kind → Bool
of_kind k = kinds.same (text_kind (text_of (letters (the k))) (class_in (the k))) k

unfoldable pub known : Kind → Bool
known k = is_text (class_in (the k)) && (is_one_token k && (no_number k && of_kind k))

fine_word : (k : Kind) → known k ≡ true → Fine (the k)
unfolding known kind
fine_word k h =
    let a = both_pass (is_text (class_in (the k))) (is_one_token k && (no_number k && of_kind k)) h in
    let b = both_pass (is_one_token k) (no_number k && of_kind k) a.1 in
    let c = both_pass (no_number k) (of_kind k) b.1 in
    record {
      no_blank = text_not (class_in (the k)) Blank a.0 refl;
      no_comment = text_not (class_in (the k)) Comment a.0 refl;
      one = b.0;
      reads = refl;
      kinds =
          λ at watts.
          rw (not_same (class_in (the k)) Stray (text_not (class_in (the k)) Stray a.0 refl), bad_one (numeral_in (the k)).stage c.0)
          (samekinds.same_one (text_kind (text_of (letters (the k))) (class_in (the k))) k c.1);
    }

glyph_class : (d : ℕ) → d < 10 → class_of (glyph d) ≡ Word
unfolding class_of is_word glyph
glyph_class d h =
    rw (lt-ltb d 10 h, ne_eqb (48 + d) 46 (λ e. omega arith), ne_eqb (48 + d) 95 (λ e. omega arith), le-leb 48 (48 + d) (omega arith), le-leb (48 + d) 57 (omega arith))

classed_more : (c : Class) (xs ys : List ℕ) → classed c xs ≡ true → classed c ys ≡ true → classed c (xs ++ ys) ≡ true
unfolding classed
classed_more c [] ys h i = i
classed_more c (x ∷ xs) ys h i = let p = both_pass (same (class_of x) c) (classed c xs) h in rw p.0 (classed_more c xs ys p.1 i)

classed_digit : (d : ℕ) → d < 10 → classed Word (glyph d ∷ []) ≡ true
unfolding classed
classed_digit d h = rw (glyph_class d h)

classed-digits : (k x : ℕ) → classed Word (digits 10 k x) ≡ true
unfolding digits classed
classed-digits zero x = refl
classed-digits (suc k) x = go (dec_lt x 10) (classed-digits k (x / 10))
  where
    go : Dec (x < 10) → classed Word (digits 10 k (x / 10)) ≡ true → classed Word (digits 10 (suc k) x) ≡ true
    go (yes s) later = rw (lt-ltb x 10 s) (classed_digit x s)
    go (no s) later =
        rw (le-ltb x 10 (omega arith)) (classed_more Word (digits 10 k (x / 10)) (glyph (x % 10) ∷ []) later (classed_digit (x % 10) (mod-lt x (omega arith))))

classed-decimal : (n : ℕ) → classed Word (decimal n) ≡ true
unfolding digits_in
classed-decimal n = classed-digits (suc n) n

some_digit : (n : ℕ) → 1 ≤ length (decimal n)
some_digit n = go (dec_lt n 10)
  where
    go : Dec (n < 10) → 1 ≤ length (decimal n)
    go (yes h) = omega (arith, ap length (last_digit 10 (omega arith) n h))
    go (no h) = omega (arith, length_more 10 (omega arith) n (omega arith))

single_word : (l : List ℕ) → classed Word l ≡ true → 1 ≤ length l → single Word l ≡ true
unfolding classed single opened
single_word [] h i = absurd (omega arith)
single_word (b ∷ bs) h i =
    let p = both_pass (same (class_of b) Word) (classed Word bs) h in rw (same_one (class_of b) Word p.0) p.1

-- a lone 0 is a number as digits are
number_kind : (b : Bool) (at text n : ℕ) (watts : Bool)
    → kind (token Word at text (numeral (cond b Zero Digits) false 10 false n 0)) watts ≡ cond watts Amount Number
unfolding kind kind_of_number
number_kind true at text n watts = refl
number_kind false at text n watts = refl

fine_number : (n : ℕ) → n ≤ 2 ^ 64 - 1 → Fine (number n)
unfolding past_digit
fine_number n h =
    record {
      no_blank = text_not Word Blank refl refl;
      no_comment = text_not Word Comment refl refl;
      one = single_word (decimal n) (classed-decimal n) (some_digit n);
      reads = digits_back n h;
      kinds = λ at watts. number_kind (eqb n 0) at (text_of (decimal n)) n watts;
    }

fine_below : (n : ℕ) → n ≤ 2 ^ 64 - 1 → Fine (below n)
unfolding single opened class_of is_word is_sign is_blank kind kind_of_number
fine_below n h =
    record {
      no_blank = text_not Word Blank refl refl;
      no_comment = text_not Word Comment refl refl;
      one = classed-decimal n;
      reads = minus_back n h;
      kinds = λ at watts. refl;
    }

-- what is asked of a piece, and of pieces
abbrev pub Right : Piece → Type 0
Right (the k) = known k ≡ true
Right (number n) = n ≤ 2 ^ 64 - 1
Right (below n) = n ≤ 2 ^ 64 - 1

abbrev pub AllRight : List Piece → Type 0
AllRight [] = Unit {0}
AllRight (p ∷ ps) = Right p × AllRight ps

fine : (p : Piece) → Right p → Fine p
fine (the k) h = fine_word k h
fine (number n) h = fine_number n h
fine (below n) h = fine_below n h

-- ---- a piece after a blank, and what follows it

-- a piece was read, and ends before a place
abbrev pub heard : Scan → ℕ → Piece → ℕ → Scan
heard s at p end =
    cond (is_some s.mistake) (with_token s (token_at p at)) (accepted (with_token s (token_at p at)) (kind_in p (is_watts s.place)) end)

module _ (s : Scan) (at : ℕ) (p : Piece) (blank : s.token.class ≡ Blank) (f : Fine p) where
  piece : steps s at (letters p) ≡ with_token s (token_at p at)
  piece =
      one_token s blank (class_in p) at (letters p) f.no_blank f.one
      ∙ ap (λ (n : Numeral). with_token s (token (class_in p) at (text_of (letters p)) n)) f.reads

  ended : (end : ℕ) → closed (with_token s (token_at p at)) end ≡ heard s at p end
  unfolding closed with_token
  ended end =
      rw (not_same (class_in p) Blank f.no_blank, not_same (class_in p) Comment f.no_comment, f.kinds at (is_watts s.place))

  spaced_off : (end : ℕ) → step (with_token s (token_at p at)) 32 end ≡ with_token (heard s at p end) (begun Blank 32 end)
  unfolding step class_of is_word is_sign is_blank with_token
  spaced_off end =
      rw (not_same (class_in p) Blank f.no_blank, not_same (class_in p) Comment f.no_comment) (ap (λ (z : Scan). with_token z (begun Blank 32 end)) (ended end))

-- the pieces one after the other
unfoldable pub followed : Scan → ℕ → List Piece → ℕ → Scan
followed s at [] end = s
followed s at (p ∷ []) end = heard s at p end
followed s at (p ∷ q ∷ ps) end =
    followed (with_token (heard s at p (at + length (letters p))) (begun Blank 32 (at + length (letters p)))) (suc (at + length (letters p))) (q ∷ ps) end

pub follows : (s : Scan) (at : ℕ) (p : Piece) (ps : List Piece) (end : ℕ) → s.token.class ≡ Blank → AllRight (p ∷ ps)
    → closed (steps s at (spaced (p ∷ ps))) end ≡ followed s at (p ∷ ps) end
unfolding followed steps begun opened with_token
follows s at p [] end blank h =
    let f = fine p h.0 in ap (λ (z : Scan). closed z end) (piece s at p blank f) ∙ ended s at p blank f end
follows s at p (q ∷ ps) end blank h =
    let f = fine p h.0 in
    let here = at + length (letters p) in
    let next = with_token (heard s at p here) (begun Blank 32 here) in
    ap (λ (z : Scan). closed z end)
    (steps_more s at (letters p) (32 ∷ spaced (q ∷ ps))
    ∙ ap (λ (z : Scan). steps (step z 32 here) (suc here) (spaced (q ∷ ps))) (piece s at p blank f)
    ∙ ap (λ (z : Scan). steps z (suc here) (spaced (q ∷ ps))) (spaced_off s at p blank f here))
    ∙ follows next (suc here) q ps end refl h.1
