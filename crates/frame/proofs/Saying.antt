-- What is written of a number and of a reply, and that it fits the room for an answer. Assumes nothing.
use mathlib.Core.Path.{◌≡◌, sym, ap, ◌∙◌}
use mathlib.Core.List.{List, [], ◌∷◌, ◌++◌, append-nil}
use Prim.Native.Nat.{ℕ, ◌*◌, ◌≤◌}
use native.Mathlib.Decide.{ℕ_discrete}
use native.Mathlib.Omega.{arith}
use borrow.Author.Tests.{eq-eqb, ne_eqb}
use lib.ListN.{drop, length, length-append, length-drop}
use Rattle.word.specs.declared.Edition.{Edition}
use Rattle.rule.specs.Meaning.{RULES}
use Rattle.chain.specs.declared.Link.{Link}
use Rattle.chain.specs.Links.{chain_room, numbers_of, most_links}
use Rattle.chain.proofs.Walk.{numbers_length}
use Rattle.sheet.specs.declared.slate_ask.Reply.{Reply}
use Rattle.sheet.specs.declared.Sheet.{Sheet}
use Rattle.page.specs.Calls.{ask, refusal}
use Rattle.page.specs.Page.{Page}
use Rattle.sheet.specs.Statements.{Asked, IsSheet, chain_on, overlaid, reply}
use Rattle.sheet.proofs.Tested.{sheet_dec}
use Rattle.frame.specs.fields.Answers.{ROOM, answer_bytes, ask_lines, kept_line, line_bytes, link_lines, number_line}
use Rattle.frame.specs.fields.Put.{PutAt}
use Rattle.frame.proofs.fields.Lines.{length_kept, length_links, length_number, one_line}

pub number_fits : (n : ℕ) → length (answer_bytes (number_line n ∷ [])) ≤ ROOM
unfolding answer_bytes
number_fits n = rw (append-nil (line_bytes (number_line n))) (omega (arith, length_number n))

-- ---- asking

-- as many links are told as the chain has
told : (pg : Page) (m : ℕ) → (reply pg m).links ≡ length (chain_on pg m)
unfolding reply chain_on
told pg m = go (ℕ_discrete (refusal pg (ask m)) 0)
  where
    go : Dec (refusal pg (ask m) ≡ 0) → (reply pg m).links ≡ length (chain_on pg m)
    go (yes e) = rw (eq-eqb (refusal pg (ask m)) 0 e)
    go (no n) = rw (ne_eqb (refusal pg (ask m)) 0 n)

-- links that are laid over a buffer fit in it
laid_fit : (ls : List Link) (b : List ℕ) → length (overlaid ls b) ≡ length b → 3 * length ls ≤ length b
laid_fit ls b e =
    omega (arith, numbers_length ls, length-drop (3 * length ls) b, sym (length-append (numbers_of ls) (drop (3 * length ls) b)) ∙ e)

pub few_links : {s : Sheet} {b b' : List ℕ} {r : Reply} → Asked s b b' r → length b ≡ chain_room RULES → length b' ≡ chain_room RULES
    → r.links ≤ most_links RULES
few_links {s} {b} {b'} {r} a e e' = go (sheet_dec s)
  where
    go : Dec (IsSheet s) → r.links ≤ most_links RULES
    go (yes h) =
        let p = a.on_page h.on h.reached h.gives in
        let ls = chain_on h.on (length b) in
        let n : r.links ≡ length ls = ap (λ (t : Reply). t.links) p.0 ∙ told h.on (length b) in
        omega (arith, laid_fit ls b (ap length (sym p.1) ∙ e' ∙ sym e))
    go (no n) = let z : r.links ≡ 0 = ap (λ (t : Reply). t.links) (a.no_sheet n).0 in omega arith

-- what is written of a reply
module _ (e : Edition) (r : Reply) (c : List ℕ) {b b' : List ℕ} {at end : ℕ} where
  pub refusal_put : (r.number ≡ 0 → ⊥) → PutAt b at (line_bytes (number_line r.number)) b' end → PutAt b at (answer_bytes (ask_lines e r c)) b' end
  unfolding ask_lines
  refusal_put n l = rw (ne_eqb r.number 0 n) (one_line (number_line r.number) l)

  pub reply_put : r.number ≡ 0 → PutAt b at (line_bytes (kept_line e r.kept) ++ answer_bytes (link_lines e r.links c)) b' end
      → PutAt b at (answer_bytes (ask_lines e r c)) b' end
  unfolding ask_lines answer_bytes
  reply_put n l = rw (eq-eqb r.number 0 n) l

pub reply_fits : (e : Edition) (r : Reply) (c : List ℕ) → r.links ≤ most_links RULES → length (answer_bytes (ask_lines e r c)) ≤ ROOM
unfolding ask_lines answer_bytes
reply_fits e r c few = go (ℕ_discrete r.number 0)
  where
    go : Dec (r.number ≡ 0) → length (answer_bytes (ask_lines e r c)) ≤ ROOM
    go (yes n) =
        rw (eq-eqb r.number 0 n, length-append (line_bytes (kept_line e r.kept)) _)
        (omega (arith, length_kept e r.kept, length_links e r.links c))
    go (no n) = rw (ne_eqb r.number 0 n) (number_fits r.number)
