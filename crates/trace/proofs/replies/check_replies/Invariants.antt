use Rattle.std.specs.Iterator.Adapters.{enumerate_source, enumerate_count}
use Rattle.std.specs.Slice.Iter.{chunks_exact_rest, chunks_exact_size}
use Rattle.trace.specs.Records.{reply_at}
use Rattle.trace.proofs.RecordTurns.{Left, of_replies}
use Rattle.trace.proofs.replies.check_replies.Given as goal

abbrev pub invariant-loop-i : goal.invariant-loop-i
invariant-loop-i l =
    Left (of_replies l.ticks) reply_at 10 l.replies l.low (enumerate_count l.i-iterator) (chunks_exact_size (enumerate_source l.i-iterator)) (chunks_exact_rest (enumerate_source l.i-iterator))
