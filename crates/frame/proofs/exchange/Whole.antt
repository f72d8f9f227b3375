-- What goes in byte by byte from the start, and what is said at the end, is the exchange of the whole input. Assumes nothing.
use mathlib.Core.Path.{◌≡◌, refl, sym, ap, ap₂, ◌∙◌, subst}
use mathlib.Core.List.{List, [], ◌∷◌, ◌++◌, append_assoc, append-nil}
use Prim.Native.Nat.{ℕ, suc, ◌+◌}
use native.Mathlib.Nat.{zero-add}
use native.Mathlib.Omega.{arith}
use borrow.Author.Tests.{eq-eqb, ne_eqb}
use lib.ListN.{drop, length, length-take, take}
use lib.Seq.{sets-eq, take-append_seam}
use Rattle.sheet.specs.declared.Sheet.{Sheet}
use Rattle.page.specs.Page.{Page}
use Rattle.sheet.specs.Record.{blank, fresh}
use Rattle.page.specs.Reached.{Reached, start}
use Rattle.frame.specs.fields.Answers.{NEWLINE, answer_bytes}
use Rattle.frame.specs.Calls.{line_call}
use Rattle.frame.specs.fields.Fields.{Line}
use Rattle.frame.specs.route.Reading.{LONGEST}
use Rattle.frame.specs.Pages.{answer_to, page_after}
use Rattle.frame.specs.fields.Put.{PutAt}
use Rattle.frame.proofs.OnPage.{page_answers, page_reached}
use Rattle.frame.specs.exchange.route.Begun.{HELD, begun_line, none, put}
use Rattle.frame.specs.exchange.route.Desk.{Desk, desk}
use Rattle.frame.specs.exchange.Exchange.{answers_to, exchange, in_front, lines}
use Rattle.frame.specs.exchange.route.Statements.{Ends, Finished, LineSaid, Takes, ends_line, goes_on, last_line, no_line, nothing}
use Rattle.frame.specs.exchange.Talk.{Talk, a_part, silence}
use Rattle.frame.proofs.exchange.Cut.{feeds_takes}
use Rattle.frame.proofs.exchange.Held.{Whole, cut_call, put_held, put_whole, take-take_append}
use Rattle.frame.proofs.exchange.Taking.{takes_on}

-- lines with bytes in front
after_bytes : List ℕ → List (List ℕ) → List (List ℕ)
after_bytes [] ls = ls
after_bytes (b ∷ u) ls = in_front b (after_bytes u ls)

-- the bytes are a line where a line ends, and where nothing follows
line_ends : (u : List ℕ) (ls : List (List ℕ)) → after_bytes u ([] ∷ ls) ≡ u ∷ ls
unfolding after_bytes in_front
line_ends [] ls = refl
line_ends (b ∷ u) ls = ap (in_front b) (line_ends u ls)

line_last : (b : ℕ) (u : List ℕ) → after_bytes (b ∷ u) [] ≡ (b ∷ u) ∷ []
unfolding after_bytes in_front
line_last b [] = refl
line_last b (c ∷ u) = ap (in_front b) (line_last c u)

byte_more : (u : List ℕ) (b : ℕ) (ls : List (List ℕ)) → after_bytes u (in_front b ls) ≡ after_bytes (u ++ b ∷ []) ls
unfolding after_bytes
byte_more [] b ls = refl
byte_more (c ∷ u) b ls = ap (in_front c) (byte_more u b ls)

-- a desk on a page, which holds the first bytes of a line u
record Holds (pg : Page) (u : List ℕ) (d : Desk) : Type 0 where
  pub reached : Reached pg
  pub sheet_of : d.sheet ≡ fresh pg
  pub whole : Whole d.begun
  pub held : begun_line d.begun ≡ take HELD u

module _ {pg : Page} {u : List ℕ} {d : Desk} (h : Holds pg u d) where
  -- the line gets the page's answer
  said_of : {t : Sheet} {ls : List Line} → LineSaid d t ls → (t ≡ fresh (page_after pg (line_call u))) × (ls ≡ answer_to pg (line_call u))
  said_of q =
      let e = ap line_call h.held ∙ cut_call u in
      page_answers pg h.reached h.sheet_of (rw e at q)

  -- after it, no line
  line_over : {t : Sheet} {ls : List Line} → LineSaid d t ls → Holds (page_after pg (line_call u)) [] (desk t none)
  unfolding begun_line
  line_over q = record { reached = page_reached h.reached (line_call u); sheet_of = (said_of q).0; whole = refl; held = refl }

  holds_more : (b : ℕ) → Holds pg (u ++ b ∷ []) (desk d.sheet (put d.begun b))
  holds_more b =
      record {
        reached = h.reached;
        sheet_of = h.sheet_of;
        whole = put_whole d.begun b h.whole;
        held = put_held d.begun b h.whole ∙ ap (λ (l : List ℕ). take HELD (l ++ b ∷ [])) h.held ∙ take-take_append HELD u (b ∷ []);
      }

-- at the end a line is answered where it has a byte
at_end : {pg : Page} (u : List ℕ) {d : Desk} {p : List ℕ} → Holds pg u d → Ends d p → p ≡ answers_to pg (after_bytes u [])
unfolding answers_to after_bytes begun_line
at_end [] h (no_line z) = refl
at_end [] {d} h (last_line ls n q) =
    absurd (n (omega (arith, h.whole, sym (length-take d.begun.len d.begun.bytes) ∙ ap length h.held)))
at_end (b ∷ u) {d} h (no_line z) =
    let e : 0 ≡ suc (length (take LONGEST u)) = ap (λ (n : ℕ). length (take n d.begun.bytes)) (sym z) ∙ ap length h.held in absurd (omega arith)
at_end {pg} (b ∷ u) {d} {p} h (last_line ls n q) =
    ap answer_bytes (said_of h q).1 ∙ sym (append-nil _) ∙ ap (answers_to pg) (sym (line_last b u))

from_here : {pg : Page} (u : List ℕ) {d e : Desk} {bs o p : List ℕ} → Holds pg u d → Takes d bs e o → Ends e p
    → o ++ p ≡ answers_to pg (after_bytes u (lines bs))
unfolding lines answers_to after_bytes
from_here u h nothing k = at_end u h k
from_here {pg} u {p} h (ends_line {b} {bs} {o = q} ls z s t) k =
    append_assoc (answer_bytes ls) q p
    ∙ ap₂ ◌++◌ (ap answer_bytes (said_of h s).1) (from_here {pg = page_after pg (line_call u)} [] (line_over h s) t k)
    ∙ sym (rw (eq-eqb b NEWLINE z, line_ends u (lines bs)))
from_here {pg} u h (goes_on {b} {bs} n t) k =
    from_here (u ++ b ∷ []) (holds_more h b) t k ∙ sym (rw (ne_eqb b NEWLINE n, byte_more u b (lines bs)))

whole_exchange : {e : Desk} {input o p : List ℕ} → Takes (desk blank none) input e o → Ends e p → o ++ p ≡ exchange input
unfolding exchange fresh begun_line after_bytes
whole_exchange t k = from_here [] (record { reached = start; sheet_of = refl; whole = refl; held = refl }) t k

-- ---- however it is cut

-- what a buffer holds up to the place where bytes from its start on end
put_read : {b b' bytes : List ℕ} {n : ℕ} → PutAt b 0 bytes b' n → take n b' ≡ bytes
put_read {b} {b'} {bytes} {n} l =
    ap₂ take (l.ends ∙ zero-add (length bytes)) (l.written.stands ∙ sets-eq bytes b 0 l.fits)
    ∙ take-append_seam bytes (drop (0 + length bytes) b)

talk_takes : {d e : Desk} {input o : List ℕ} → Talk d input e o → Takes d input e o
talk_takes silence = nothing
talk_takes {d} {e} (a_part {more} {o} part b b' r h t) =
    subst (λ (l : List ℕ). Takes d (take r.used part ++ more) e (l ++ o)) (sym (put_read h.puts))
    (takes_on (feeds_takes h.feeds) (talk_takes t))

pub any_cut : {e : Desk} {input o b b' : List ℕ} {n : ℕ} → Talk (desk blank none) input e o → Finished e b b' n → o ++ take n b' ≡ exchange input
any_cut {o} t k = ap (λ (l : List ℕ). o ++ l) (put_read k.puts) ∙ whole_exchange (talk_takes t) k.ends
