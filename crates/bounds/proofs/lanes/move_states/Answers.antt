use native.Mathlib.Omega.{arith}
use Rattle.bounds.proofs.Moving.{moving_start, moving_next, moving_end}
use Rattle.bounds.proofs.lanes.move_states.Goals as goal

pub loop-i-init : goal.loop-i-init
loop-i-init c = moving_start _ _ _ _ _ c.requires.0 c.requires.1

pub loop-i-preserved : goal.loop-i-preserved
loop-i-preserved c = let l = c.apply-least_rises.ensures in
    let g = c.apply-greatest_rises.ensures in
    moving_next _ _ _ _ _ c.loop-i.invariant _ _ _ _ c.loop-i-test.true l.state l.rises g.state g.rises

pub returns : goal.returns
returns c = let p = moving_end _ _ _ _ _ c.loop-i.invariant (omega (arith, c.loop-i-test.false, c.loop-i.auto.i-end)) in record { least = p.0; greatest = p.1; rises = p.2 }
