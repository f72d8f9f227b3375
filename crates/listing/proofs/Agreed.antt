-- Counting agrees with the listing carried on to the end, and both with what asking answers: all that listings write one after another
-- are the fitting words. Assumes nothing.
use mathlib.Core.Path.{◌≡◌, refl, sym, ap, ap₂, ◌∙◌, subst, subst₂}
use mathlib.Core.Bool.{Bool, cond}
use mathlib.Core.List.{List, [], ◌++◌, append-nil}
use Prim.Native.Nat.{ℕ, suc, min, ◌≤◌, ◌<◌}
use native.Mathlib.Decide.{ℕ_discrete}
use native.Mathlib.Omega.{arith}
use borrow.Author.Tests.{eq-eqb, ne_eqb}
use lib.ListN.{drop, get_or, length, length-replicate, length-take, replicate, take}
use lib.Seq.{get_or-take, take_at}
use Rattle.word.specs.Word.{top}
use Rattle.rule.specs.declared.Rule.{Rule}
use Rattle.search.specs.declared.verdict.Kept.{Kept}
use Rattle.search.specs.verdict.Kept.{kept}
use Rattle.chain.specs.Findings.{findings}
use Rattle.page.specs.Calls.{ask, first_that_applies, is_blank, refusal, rules_of}
use Rattle.page.specs.Page.{OpenPage, entries_of, page, rules_on, width_of}
use Rattle.page.specs.Reached.{Reached}
use Rattle.sheet.specs.declared.slate_ask.Reply.{Reply}
use Rattle.sheet.specs.declared.Sheet.{Sheet}
use Rattle.sheet.specs.Record.{fresh}
use Rattle.sheet.specs.Statements.{Asked, chain_on, refuses, replies, reply}
use Rattle.sheet.proofs.WaysOfAsking.{accepted_reply}
use Rattle.counting.specs.fitting.Agreement.{Agrees}
use Rattle.counting.specs.fitting.Next.{EachNext}
use Rattle.counting.specs.fitting.Words.{at_start, fitting_from, how_many, onward, words_from}
use Rattle.counting.proofs.fitting.Agreement.{kept_agrees}
use Rattle.counting.proofs.fitting.Carried as carried
use Rattle.counting.proofs.fitting.Only.{each_next}
use Rattle.counting.specs.declared.Share.{Share}
use Rattle.counting.specs.Counted.{Counted, count_grounds, share_of}
use Rattle.counting.specs.Share.{shares, together}
use Rattle.counting.proofs.Free.{together-shares}
use Rattle.listing.specs.declared.Listing.{Listing}
use Rattle.listing.specs.Carried.{CarriedOn, Wrote, further, not_filled, top_written}
use Rattle.listing.specs.list_refusal.Grounds.{list_number}
use Rattle.listing.proofs.list_refusal.Numbers.{own_number}
use Rattle.listing.specs.Listed.{list_on, listings}
use Rattle.listing.proofs.Held.{listed_on}

-- on a sheet that is not blank
module _ (o : OpenPage) (reached : Reached (page o)) {s : Sheet} (gives : s ≡ fresh (page o)) where
  abbrev w : ℕ
  w = o.opening.width

  abbrev rs : List Rule
  rs = rules_on o.entries

  -- what an accepted listing wrote
  wrote : {p room : ℕ} {xs : List ℕ} → Wrote s p room xs → xs ≡ words_from w rs p room
  unfolding list_on width_of rules_of entries_of
  wrote {p} {room} {xs} h =
      let q = h.listed.on_page (page o) reached gives in
      let none : list_number (page o) p ≡ 0 = sym (ap (λ (r : Listing). r.number) q.0) ∙ h.accepted in
      let own : list_on (page o) p (length h.b) ≡ words_from w rs p (length h.b) =
      ap (λ (v : Bool). cond v (words_from w rs p (length h.b)) []) (eq-eqb (list_number (page o) p) 0 none) in
      let ls : List ℕ = list_on (page o) p (length h.b) in
      sym h.words_are
      ∙ ap₂ take (ap (λ (r : Listing). r.written) q.0) q.1
      ∙ take_at ls (drop (length ls) h.b) (length ls) refl
      ∙ own
      ∙ ap (words_from w rs p) h.size

  -- each word that it wrote is the next that fits, and no other list is so (fitting: `only_list`)
  pub wrote_each_next : {p room : ℕ} {xs : List ℕ} → Wrote s p room xs → EachNext w rs p room xs
  wrote_each_next {p} {room} h = subst (EachNext w rs p room) (sym (wrote h)) (each_next w rs p room)

  -- all that listings write is all that fits
  pub all_written : {p : ℕ} {xs : List ℕ} → CarriedOn s p xs → xs ≡ fitting_from w rs p
  unfolding fresh
  all_written {p} {xs} (not_filled {room = room} h short) =
      wrote h ∙ sym (carried.not_filled w rs p room (subst (λ (l : List ℕ). length l < room) (wrote h) short))
  all_written {p} {xs} (top_written {room = room} h last) =
      let e = wrote h in
      let q : onward p (words_from w rs p room) ≡ suc (top w) = ap (onward p) (sym e) ∙ last ∙ ap (λ (t : Sheet). suc (top t.width)) gives in
      e
      ∙ sym
      (carried.carried_on w rs p room
      ∙ ap (λ (l : List ℕ). words_from w rs p room ++ l) (ap (fitting_from w rs) q ∙ carried.past_top w rs)
      ∙ append-nil (words_from w rs p room))
  all_written {p} (further {room = room} {xs = xs} {ys = ys} h rest) =
      let e = wrote h in
      ap₂ ◌++◌ e (all_written rest ∙ ap (λ (l : List ℕ). fitting_from w rs (onward p l)) e) ∙ sym (carried.carried_on w rs p room)

  -- and there are such listings, from every word on: one buffer with a place more than words fit is not filled
  pub some_end : (p : ℕ) → p ≤ top w → (xs : List ℕ) × CarriedOn s p xs
  unfolding words_from
  some_end p l = (_, not_filled one short)
    where
      room : ℕ
      room = suc (length (fitting_from w rs p))

      b : List ℕ
      b = replicate room 0

      words : List ℕ
      words = list_on (page o) p (length b)

      one : Wrote s p room (take (length words) (at_start words b))
      one = record {
        b = b;
        b' = at_start words b;
        r = listings (list_number (page o) p) (length words);
        listed = listed_on (page o) reached gives (refl, refl);
        accepted = own_number o p l;
        size = length-replicate room 0;
        words_are = refl;
      }

      short : length (take (length words) (at_start words b)) < room
      short = omega (arith, ap length (wrote one), length-take room (fitting_from w rs p))

  -- what a count says
  shared : {r : Share} → Counted s r → r ≡ shares 0 (how_many w rs)
  unfolding share_of count_grounds first_that_applies is_blank width_of rules_of entries_of
  shared c = c.on_page (page o) reached gives

  -- "Counting must agree with the listing, carried on to the end."
  pub count_agrees : {r : Share} {xs : List ℕ} → Counted s r → CarriedOn s 0 xs → together r ≡ length xs
  count_agrees c on =
      ap together (shared c) ∙ together-shares 0 (how_many w rs) ∙ sym (carried.counted w rs) ∙ ap length (sym (all_written on))

  -- what an accepted asking says
  replied : {b b' : List ℕ} {r : Reply} → Asked s b b' r → r.number ≡ 0 → r.kept ≡ kept w rs
  unfolding reply findings width_of rules_of entries_of
  replied {b} {b'} {r} a z = go (ℕ_discrete (refusal (page o) (ask (length b))) 0)
    where
      said : r ≡ reply (page o) (length b)
      said = (a.on_page (page o) reached gives).0

      go : Dec (refusal (page o) (ask (length b)) ≡ 0) → r.kept ≡ kept w rs
      go (yes e) = ap (λ (t : Reply). t.kept) (said ∙ sym (accepted_reply (page o) (length b) e))
      go (no n) =
          let refused : r ≡ refuses (refusal (page o) (ask (length b))) =
          said ∙ ap (λ (v : Bool). cond v (replies 0 (kept w rs) (length (chain_on (page o) (length b)))) (refuses (refusal (page o) (ask (length b))))) (ne_eqb _ 0 n) in
          absurd (n (sym (ap (λ (t : Reply). t.number) refused) ∙ z))

  -- verdict, smallest and largest agree with count and listing: "none" is 0, "one" is 1, else more, and the ends are the listing's
  pub answers_agree : {b b' : List ℕ} {r : Reply} {c : Share} {xs : List ℕ} → Asked s b b' r → r.number ≡ 0 → Counted s c → CarriedOn s 0 xs
      → Agrees r.kept (together c) xs
  answers_agree {c = share} {xs = xs} a z c on =
      subst (λ (k : Kept). Agrees k (together share) xs) (sym (replied a z))
      (subst₂ (Agrees (kept w rs)) (sym (ap together (shared c) ∙ together-shares 0 (how_many w rs))) (sym (all_written on)) (kept_agrees w rs))

  -- the first listed from 0 is the smallest
  pub first_smallest : {b b' : List ℕ} {r : Reply} {room : ℕ} {xs : List ℕ} → Asked s b b' r → r.number ≡ 0 → Wrote s 0 room xs → 0 < length xs
      → get_or xs 0 0 ≡ r.kept.smallest
  unfolding words_from
  first_smallest {room = room} {xs = xs} a z h some =
      let e = wrote h in
      let fits = fitting_from w rs 0 in
      let size : length xs ≡ min room (length fits) = ap length e ∙ length-take room fits in
      ap (λ (l : List ℕ). get_or l 0 0) e
      ∙ get_or-take room fits 0 0 (omega arith)
      ∙ (kept_agrees w rs).smallest (omega (arith, carried.counted w rs))
      ∙ ap (λ (k : Kept). k.smallest) (sym (replied a z))
