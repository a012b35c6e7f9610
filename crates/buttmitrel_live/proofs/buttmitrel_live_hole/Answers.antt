use Rattle.live.specs.State.{with_hole}
use Rattle.live.specs.Calls.{hole_answer}
use Rattle.live.proofs.Stepping.{no_hole}
use Rattle.buttmitrel_live.specs.Live.{state_of}
use Rattle.buttmitrel_live.proofs.Feeding.{stored_not, no_state, feeds}
use Rattle.buttmitrel_live.proofs.buttmitrel_live_hole.Goals as goal

pub returns-in_default : goal.returns-in_default
returns-in_default c = let b = c.args in
    let s = state_of b.cells b.idle b.rules.now b.words.now b.totals.now in let p = stored_not _ _ _ _ _ c.code.ensures (no_state b.rules.now b.totals.now s (hole_answer s b.last) c.in_default.ensures (no_hole s b.last)) in record { answer = p.0; words = p.1.0; totals = p.1.1 }

pub returns : goal.returns
returns c = let b = c.args in
    let s = state_of b.cells b.idle b.rules.now b.words.now b.totals.now in
    let p = feeds b.words.now b.totals.now b.rules.now (λ y. hole_answer y b.last) (λ y. with_hole y b.last) s c.in-Some.ensures c.hole.ensures.answer c.hole.ensures.state (c.store.ensures.answer, (c.store.ensures.words, c.store.ensures.totals)) in record { answer = p.0; words = p.1.0; totals = p.1.1 }
