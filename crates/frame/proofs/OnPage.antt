-- On the sheet that a page gives, a line gets the page's answer, and the sheet of the page after it. Assumes nothing.
use mathlib.Core.Path.{◌≡◌, refl, sym, ap, ◌∙◌}
use mathlib.Core.List.{List, [], ◌∷◌, ◌++◌}
use Prim.Native.Nat.{ℕ}
use native.Mathlib.Decide.{ℕ_discrete}
use native.Mathlib.Omega.{arith}
use borrow.Author.Tests.{eq-eqb, ne_eqb}
use lib.ListN.{length}
use Rattle.word.specs.declared.Edition.{Edition}
use Rattle.rule.specs.Meaning.{RULES}
use Rattle.chain.specs.declared.Link.{Link}
use Rattle.chain.specs.Links.{chain_room, numbers_of}
use Rattle.sheet.specs.declared.Answer.{Answer}
use Rattle.sheet.specs.declared.slate_ask.Reply.{Reply}
use Rattle.sheet.specs.declared.Sheet.{Sheet}
use Rattle.page.specs.Calls.{ask, refusal}
use Rattle.page.specs.Page.{Page, edition_of, no_page, page}
use Rattle.sheet.specs.Record.{fresh}
use Rattle.sheet.specs.Statements.{Asked, chain_on, overlaid, reply}
use Rattle.page.specs.Reached.{Reached}
use Rattle.sheet.proofs.demands.Demand.{after_reached, outcome_on}
use Rattle.page.proofs.Lawful.{reached_lawful}
use Rattle.page.proofs.Refusals.{ask_fits, blank_ask}
use Rattle.frame.specs.fields.Answers.{ask_lines, chain_lines, link_line, link_lines, number_line}
use Rattle.frame.specs.Calls.{MadeCall, asks, makes, none}
use Rattle.frame.specs.fields.Fields.{Line}
use Rattle.frame.specs.Pages.{answer_to, page_after}
use Rattle.frame.specs.Statements.{Said, answered, asked, no_call}

-- the lines of links that are laid at a buffer's start
chain_lines_lem : (d : Edition) (ls : List Link) (b : List ℕ) → link_lines d (length ls) (numbers_of ls ++ b) ≡ chain_lines d ls
unfolding link_lines numbers_of chain_lines
chain_lines_lem d [] b = refl
chain_lines_lem d (l ∷ ls) b = ap (λ (o : List Line). link_line d l.from l.to l.reason ∷ o) (chain_lines_lem d ls b)

-- what is written of the page's reply
reply_lines : (pg : Page) (m : ℕ) (b : List ℕ) → ask_lines (edition_of pg) (reply pg m) (overlaid (chain_on pg m) b) ≡ answer_to pg (asks m)
unfolding ask_lines reply chain_on answer_to
reply_lines pg m b = go (ℕ_discrete (refusal pg (ask m)) 0)
  where
    go : Dec (refusal pg (ask m) ≡ 0) → ask_lines (edition_of pg) (reply pg m) (overlaid (chain_on pg m) b) ≡ answer_to pg (asks m)
    go (yes e) = rw (eq-eqb (refusal pg (ask m)) 0 e, chain_lines_lem)
    go (no n) = rw (ne_eqb (refusal pg (ask m)) 0 n, ne_eqb (refusal pg (ask m)) 0 n)

fresh-edition : (pg : Page) → (fresh pg).edition ≡ edition_of pg
unfolding fresh edition_of
fresh-edition no_page = refl
fresh-edition (page o) = refl

module _ (pg : Page) (h : Reached pg) {s : Sheet} (e : s ≡ fresh pg) where
  pub asked_lines : {m : ℕ} {b c : List ℕ} {r : Reply} → length b ≡ m → Asked s b c r → ask_lines s.edition r c ≡ answer_to pg (asks m)
  asked_lines {m} {b} q a =
      let p = a.on_page pg h e in
      let d : s.edition ≡ edition_of pg = ap (λ (t : Sheet). t.edition) e ∙ fresh-edition pg in
      (λ i. ask_lines (d i) (p.0 i) (p.1 i)) ∙ ap (λ (k : ℕ). ask_lines (edition_of pg) (reply pg k) (overlaid (chain_on pg k) b)) q ∙ reply_lines pg m b

  pub page_answers : {c : MadeCall} {t : Sheet} {ls : List Line} → Said s c t ls → (t ≡ fresh (page_after pg c)) × (ls ≡ answer_to pg c)
  unfolding answer_to page_after
  page_answers (answered c r o) =
      let q = outcome_on pg e h c o in
      (ap (λ (a : Answer). a.sheet) q, ap (λ (a : Answer). number_line a.number ∷ []) q)
  page_answers (asked m b b' r q a) = (e, asked_lines q a)
  page_answers no_call = (e, refl)

pub page_reached : {pg : Page} → Reached pg → (c : MadeCall) → Reached (page_after pg c)
unfolding page_after
page_reached h none = h
page_reached h (makes c) = after_reached h c
page_reached h (asks m) = h

-- "the program always lends enough for the chain": 9 cannot come from a line
pub lent_enough : (pg : Page) → Reached pg → refusal pg (ask (chain_room RULES)) ≡ 9 → ⊥
lent_enough no_page h e = let z = sym (blank_ask (chain_room RULES)) ∙ e in omega arith
lent_enough (page o) h e =
    let few = (reached_lawful h).rules_fit in
    let z = sym (ask_fits o (chain_room RULES) (omega arith)) ∙ e in
    omega arith
