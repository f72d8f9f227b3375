-- From what a call on the slate promises to what its frame comes to. Assumes nothing.
use mathlib.Core.Path.{◌≡◌, ap, ◌∙◌}
use mathlib.Core.List.{List}
use Prim.Native.Nat.{ℕ}
use lib.ListN.{length}
use Rattle.rule.specs.Meaning.{RULES}
use Rattle.chain.specs.Links.{chain_room}
use Rattle.page.specs.Calls.{Call}
use Rattle.sheet.specs.declared.slate.Head.{Head}
use Rattle.sheet.specs.slate.route.Held.{Held}
use Rattle.sheet.specs.route.Held.{packed}
use Rattle.sheet.specs.route.Laid.{After}
use Rattle.sheet.specs.declared.slate_ask.Reply.{Reply}
use Rattle.sheet.specs.declared.Sheet.{Sheet}
use Rattle.sheet.specs.Statements.{Asked}
use Rattle.frame.specs.declared.Frame.{Frame}
use Rattle.frame.specs.declared.Frame.TheVariants.{Ask, NoFrame}
use Rattle.frame.specs.fields.Answers.{NO_FRAME}
use Rattle.frame.specs.Calls.{call_of, makes}
use Rattle.frame.specs.Statements.{answered, asked, no_call}
use Rattle.frame.proofs.Saying.{few_links}
use Rattle.desk.specs.declared.told.Called.{Called}
use Rattle.desk.specs.declared.told.Told.TheVariants.{Asking}
use Rattle.desk.specs.told.route.Told.{Few, number_told, told_lines}
use Rattle.desk.specs.frame_call.Chain.{by_asking, no_frame, untouched}
use Rattle.desk.specs.frame_call.route.Comes.{ComesTo}

pub number_comes : {s : Sheet} {n : ℕ} {h : Head} {rows : List (List ℕ)} {marks b : List ℕ} {f g : Frame} {r : Called} (c : Call)
    → length b ≡ chain_room RULES → f ≡ g → call_of g ≡ makes c → After s c n h rows marks → r ≡ number_told n h
    → ComesTo s b (call_of f) r rows marks b
unfolding told_lines Few
number_comes c l e q a z =
    rw (ap call_of e ∙ q, z) (record { said = answered c _ a.outcome; few = tt; held = a.held; lent = l; left = untouched })

module _ {h : Head} {rows : List (List ℕ)} {marks b : List ℕ} (k : Held h rows marks) (l : length b ≡ chain_room RULES) {f : Frame} where
  pub reply_comes : {b' : List ℕ} {r : Reply} → f ≡ Ask → length b' ≡ chain_room RULES → Asked (packed h rows marks) b b' r
      → ComesTo (packed h rows marks) b (call_of f) (record { head = h; told = Asking r }) rows marks b'
  unfolding call_of told_lines Few packed
  reply_comes {b'} {r} e m a =
      rw e (record { said = asked (chain_room RULES) b b' r l a; few = few_links a l m; held = k; lent = m; left = by_asking r a })

  pub no_frame_comes : f ≡ NoFrame → ComesTo (packed h rows marks) b (call_of f) (number_told NO_FRAME h) rows marks b
  unfolding call_of told_lines Few
  no_frame_comes e = rw e (record { said = no_call; few = tt; held = k; lent = l; left = no_frame })
