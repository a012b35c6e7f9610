use mathlib.Core.Path.{sym, ap, ◌∙◌}
use Rattle.refusals.specs.Refusals.{answer, answer_as}
use Rattle.rules.specs.Samples.{sample_of}
use Rattle.recording.specs.Recorder.{number_of, offered}
use Rattle.buttmitrel_recorder.specs.Numbers.{recorder_of}
use Rattle.buttmitrel_recorder.proofs.SixNumbers.{not_six, same_offer, call_refused, call_taken}
use Rattle.buttmitrel_recorder.proofs.buttmitrel_recorder_offer.Goals as goal

pub returns-then-numbers-ne6 : goal.returns-then-numbers-ne6
returns-then-numbers-ne6 c = let a = c.args in
    let x = sample_of a.current a.board a.volts.now a.temps.now in
    let p = not_six (λ after. after.became) (λ after. after.recorder) (λ after. after.store) a.numbers.now a.store.now (offered (recorder_of a.numbers.now) a.store.now a.tick x) c.if-numbers-ne6.true c.code.ensures in record { answer = p.0; numbers = p.1.0; store = p.1.1 }

pub returns-in-Err : goal.returns-in-Err
returns-in-Err c = let a = c.args in
    let same = same_offer a.numbers.now a.store.now a.tick a.volts.now a.temps.now c.load-r.ensures c.ranges.current c.ranges.board in
    let p = call_refused (λ after. after.became) (λ after. after.recorder) (λ after. after.store) a.numbers.now a.store.now c.if-numbers-ne6.false _ _ same
    (sym (ap (answer_as number_of) c.in-Err.is) ∙ c.offer.ensures.answer) c.code-in-Err.ensures c.offer.ensures.store in record { answer = p.0; numbers = p.1.0; store = p.1.1 }

pub returns-in-Ok : goal.returns-in-Ok
returns-in-Ok c = let a = c.args in
    let same = same_offer a.numbers.now a.store.now a.tick a.volts.now a.temps.now c.load-r.ensures c.ranges.current c.ranges.board in
    let p = call_taken (λ after. after.became) (λ after. after.recorder) (λ after. after.store) a.numbers.now a.store.now c.if-numbers-ne6.false c.load-r.result _ _ _ same
    (ap answer c.number.ensures ∙ sym (ap (answer_as number_of) c.in-Ok.is) ∙ c.offer.ensures.answer) c.offer.ensures.recorder c.store_numbers.ensures c.offer.ensures.store in record { answer = p.0; numbers = p.1.0; store = p.1.1 }
