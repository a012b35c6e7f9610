use mathlib.Core.Path.{sym, ap, ◌∙◌}
use Rattle.refusals.specs.Refusals.{answer_of}
use Rattle.recording.specs.Recorder.{drained}
use Rattle.recording.proofs.Turns.{only_stored}
use Rattle.buttmitrel_recorder.specs.Numbers.{recorder_of}
use Rattle.buttmitrel_recorder.proofs.SixNumbers.{one_stored, not_six, call_refused, call_taken}
use Rattle.buttmitrel_recorder.proofs.buttmitrel_recorder_drain.Goals as goal

pub returns-then-numbers-ne6 : goal.returns-then-numbers-ne6
returns-then-numbers-ne6 c = let six = c.args.numbers.now in
    let buffer = c.args.buffer.now in let p = not_six (λ after. after.count) (λ after. after.recorder) (λ after. after.buffer) six buffer (drained (recorder_of six) c.args.store.now buffer) c.if-numbers-ne6.true c.code.ensures in record { answer = p.0; numbers = p.1.0; buffer = p.1.1 }

pub returns-in-Err : goal.returns-in-Err
returns-in-Err c = let six = c.args.numbers.now in
    let store = c.args.store.now in
    let buffer = c.args.buffer.now in
    let same = ap (λ q. drained q store buffer) c.load-r.ensures in let p = call_refused (λ after. after.count) (λ after. after.recorder) (λ after. after.buffer) six buffer c.if-numbers-ne6.false _ _ same
    (sym (ap answer_of c.in-Err.is) ∙ c.drain.ensures.answer) c.code-in-Err.ensures c.drain.ensures.buffer in record { answer = p.0; numbers = p.1.0; buffer = p.1.1 }

pub returns-in-Ok : goal.returns-in-Ok
returns-in-Ok c = let six = c.args.numbers.now in
    let store = c.args.store.now in
    let buffer = c.args.buffer.now in
    let r = c.load-r.result in
    let same = ap (λ q. drained q store buffer) c.load-r.ensures in
    let six-long = c.if-numbers-ne6.false in
    let numbers = one_stored six r _ six-long c.load-r.ensures (only_stored r store buffer _ c.drain.ensures.recorder) in let p = call_taken (λ after. after.count) (λ after. after.recorder) (λ after. after.buffer) six buffer six-long r c.in-Ok.count _ _ same
    (sym (ap answer_of c.in-Ok.is) ∙ c.drain.ensures.answer) c.drain.ensures.recorder numbers c.drain.ensures.buffer in record { answer = p.0; numbers = p.1.0; buffer = p.1.1 }
