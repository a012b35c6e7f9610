use mir.Syntax.{w16}
use mir.ValLaws.{to_z-of_z}
use Rattle.rules.specs.Samples.{Sample}
use Rattle.live.specs.State.{with_sample}
use Rattle.live.specs.Calls.{sample_answer}
use Rattle.live.proofs.Stepping.{no_sample}
use Rattle.buttmitrel_live.specs.Live.{state_of}
use Rattle.buttmitrel_live.proofs.Feeding.{stored_not, no_state, feeds}
use Rattle.buttmitrel_live.proofs.buttmitrel_live_sample.Goals as goal

pub returns-in_default : goal.returns-in_default
returns-in_default c = let b = c.args in
    let s = state_of b.cells b.idle b.rules.now b.words.now b.totals.now in
    let x : Sample = record { current = b.current; board = b.board; volts = b.volts.now; temps = b.temps.now } in let p = stored_not _ _ _ _ _ c.code.ensures (no_state b.rules.now b.totals.now s (sample_answer s b.tick x) c.in_default.ensures (no_sample s b.tick x)) in record { answer = p.0; words = p.1.0; totals = p.1.1 }

pub returns : goal.returns
returns c = let b = c.args in
    let s = state_of b.cells b.idle b.rules.now b.words.now b.totals.now in
    let x : Sample = record { current = b.current; board = b.board; volts = b.volts.now; temps = b.temps.now } in
    let f = c.ranges in
    let e = rw (to_z-of_z w16 b.current f.current, to_z-of_z w16 b.board f.board) at c.sample-step.ensures.answer in
    let g = rw (to_z-of_z w16 b.current f.current, to_z-of_z w16 b.board f.board) at c.sample-step.ensures.state in
    let p = feeds b.words.now b.totals.now b.rules.now (λ y. sample_answer y b.tick x) (λ y. with_sample y x) s c.in-Some.ensures e g (c.store.ensures.answer, (c.store.ensures.words, c.store.ensures.totals)) in record { answer = p.0; words = p.1.0; totals = p.1.1 }
