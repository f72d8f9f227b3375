-- `put_reply` meets its contract: the verdict and its links are few enough for the room. Assumes nothing.
use Prim.Native.Nat.{◌≤◌}
use native.Mathlib.Omega.{arith}
use lib.ListN.{length}
use Rattle.frame.specs.fields.Answers.{LINE, line_bytes}
use Rattle.frame.proofs.fields.Lines.{length_kept, put_on}
use Rattle.frame.proofs.Saying.{refusal_put, reply_put}
use Rattle.desk.proofs.told.put_reply.Goals as goal

pub returns-then-reply-ne0 : goal.returns-then-reply-ne0
returns-then-reply-ne0 c =
    refusal_put c.args.edition c.args.reply c.args.chain.now c.if-reply-ne0.true c.put_number.ensures

pub put_line-end-requires : goal.put_line-end-requires
put_line-end-requires c =
    let k : length (line_bytes c.kept_line.result) ≤ LINE = rw c.kept_line.ensures (length_kept _ _) in
    omega (arith, c.requires.0)

pub put_links-requires : goal.put_links-requires
put_links-requires c =
    let put = rw c.kept_line.ensures at c.put_line-end.ensures in record { n_in_bounds = omega (arith, put.ends, length_kept c.args.edition c.args.reply.kept, c.put_line-end.auto.out, c.requires.0, c.requires.1); n_bound = c.requires.1 }

pub returns : goal.returns
returns c =
    let put = rw c.kept_line.ensures at c.put_line-end.ensures in
    reply_put c.args.edition c.args.reply c.args.chain.now c.if-reply-ne0.false (put_on put c.put_links.ensures)
