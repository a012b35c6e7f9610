use mathlib.Core.Path.{sym}
use Rattle.std.specs.Iterator.Adapters.{enumerate_source}
use Rattle.std.specs.Slice.Iter.{chunks_exact_rest}
use Rattle.trace.proofs.RecordTurns.{stop, next, end, of_reply, reply_is}
use Rattle.trace.proofs.replies.check_replies.Goals as goal

pub returns-then-reply_bad : goal.returns-then-reply_bad
returns-then-reply_bad c =
    let q = c.in-Some.ensures.steps in
    rw q.1 (sym (stop c.loop-i.invariant of_reply c.in-Some.reply.now (chunks_exact_rest (enumerate_source c.next.new.self)) q.0.1.0 q.0.1.1 (reply_is c.in-Some.reply.now 0 c.u32_at-tick.ensures) c.reply_bad.ensures c.if-reply_bad.true))

pub loop-i-preserved : goal.loop-i-preserved
loop-i-preserved c =
    let q = c.in-Some.ensures.steps in
    rw q.2 (next c.loop-i.invariant of_reply c.in-Some.reply.now (chunks_exact_rest (enumerate_source c.next.new.self)) q.0.1.0 q.0.1.1 (reply_is c.in-Some.reply.now 0 c.u32_at-tick.ensures) c.reply_bad.ensures c.if-reply_bad.false q.0.0)

pub returns : goal.returns
returns c = sym (end c.loop-i.invariant (c.in-None.ensures.steps).0.1.0)
