-- Statements one after another are answered what the clerk's pages say, up to the first mistake or refusal, and nothing after it: each by
-- its own statement, and a dialogue that stopped stays as it is. Assumes nothing.
use mathlib.Core.Path.{◌≡◌, refl, ap, ap₂, ◌∙◌}
use mathlib.Core.Bool.{Bool, true, false, cond}
use mathlib.Core.List.{List, ◌∷◌}
use Prim.Native.Nat.{ℕ}
use lib.ListN.{length, replicate}
use Rattle.page.specs.Page.{Page, no_page}
use Rattle.page.specs.Reached.{Reached, start}
use Rattle.sheet.specs.Record.{blank, fresh}
use Rattle.line.specs.declared.Statement.{Statement}
use Rattle.dialogue.specs.declared.upshot.Response.{Response}
use Rattle.dialogue.specs.declared.upshot.Response.TheVariants.{Silent}
use Rattle.dialogue.specs.declared.Dialogue.{Dialogue}
use Rattle.dialogue.specs.upshot.Upshot.{Upshot}
use Rattle.dialogue.specs.Heard.{Heard, all, answer_on, answers_to, ending, next, page_after, page_on}
use Rattle.dialogue.proofs.OnPage.{Answered, on_a_page, reached_on}
use Rattle.dialogue.proofs.Said.{takes_says, takes_silent}

-- after a stop nothing is done, and nothing is answered
pub nothing_after : {m : ℕ} {d e : Dialogue} {sts : List Statement} {rs : List Response} → Heard m d sts rs e → d.stopped ≡ true
    → (rs ≡ replicate (length sts) Silent) × (e.sheet ≡ d.sheet)
nothing_after all q = (refl, refl)
nothing_after {d = d} (next {st = st} b b' r ln lw p rest) q =
    let t = (takes_silent d st b b' r q p).0 in
    let n = nothing_after rest (ap Upshot.stopped t) in
    (ap₂ (λ (a : Response) (rs : List Response). a ∷ rs) (ap Upshot.response t) n.0, n.1 ∙ ap Upshot.sheet t)

pub heard_so : {m : ℕ} {d e : Dialogue} {sts : List Statement} {rs : List Response} {pg : Page} → Heard m d sts rs e → d.stopped ≡ false → Reached pg
    → d.sheet ≡ fresh pg → (rs ≡ answers_to m pg sts) × (e.sheet ≡ fresh (page_after m pg sts))
unfolding answers_to page_after
heard_so all q h e = (refl, e)
heard_so {m} {d} {e = z} {pg = pg} (next {st = st} {sts = sts} {rs = rs} b b' r ln lw p rest) q h e = go (ending (answer_on m pg st)) refl (λ f w. heard_so rest f (reached_on h st) w)
  where
    own : Answered m pg st r
    own = on_a_page m pg h e b b' r ln lw st (takes_says d st b b' r q p)

    go : (v : Bool) → ending (answer_on m pg st) ≡ v
        → (r.stopped ≡ false → r.sheet ≡ fresh (page_on pg st)
        → (rs ≡ answers_to m (page_on pg st) sts) × (z.sheet ≡ fresh (page_after m (page_on pg st) sts)))
        → (r.response ∷ rs ≡ answer_on m pg st ∷ cond v (replicate (length sts) Silent) (answers_to m (page_on pg st) sts))
        × (z.sheet ≡ fresh (cond v (page_on pg st) (page_after m (page_on pg st) sts)))
    go true v later =
        let n = nothing_after rest (own.stopped ∙ v) in
        (ap₂ (λ (a : Response) (rs : List Response). a ∷ rs) own.response n.0, n.1 ∙ own.sheet)
    go false v later =
        let n = later (own.stopped ∙ v) own.sheet in
        (ap₂ (λ (a : Response) (rs : List Response). a ∷ rs) own.response n.0, n.1)

-- from the start on
pub from_the_start : {m : ℕ} {d e : Dialogue} {sts : List Statement} {rs : List Response} → d.sheet ≡ blank → d.stopped ≡ false → Heard m d sts rs e
    → (rs ≡ answers_to m no_page sts) × (e.sheet ≡ fresh (page_after m no_page sts))
unfolding fresh
from_the_start s q l = heard_so {pg = no_page} l q start s
