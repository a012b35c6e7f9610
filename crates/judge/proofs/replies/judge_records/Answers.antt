use mathlib.Core.Path.{ap}
use native.Mathlib.Omega.{arith}
use Prim.Native.Nat.{ℕ, ◌+◌, ◌<◌}
use lib.ListN.{length}
use Rattle.judge.proofs.Judging.{next_reply, tick_here, judging_next, not_past, judging_end}
use Rattle.judge.proofs.replies.judge_records.Goals as goal

pub overflow_add-to : goal.overflow_add-to
overflow_add-to c = let i = c.loop-j.invariant in
    let t : c.loop-j.j < length c.loop-j.verdicts = omega arith in
    let r = next_reply i t in
    omega (arith, c.u32_at-to.ensures, tick_here i t, r.covered)

pub advance-x-requires : goal.advance-x-requires
advance-x-requires c = let i = c.loop-j.invariant in
    let t : c.loop-j.j < length c.loop-j.verdicts = omega arith in
    let r = next_reply i t in
    let u = c.u32_at-to.ensures in
    let h = tick_here i t in
    (i.there, omega (arith, u, h, r.after, i.passed), omega (arith, u, h, r.covered))

pub loop-j-preserved : goal.loop-j-preserved
loop-j-preserved c = let t : c.loop-j.j < length c.loop-j.verdicts = omega arith in
    judging_next c.loop-j.invariant c.args.judging.now.ready c.args.judging.now.planned t _ _ (ap (λ (k : ℕ). k + 1) c.u32_at-to.ensures) c.advance-x.ensures c.judge_here.ensures

pub advance-requires : goal.advance-requires
advance-requires c = let i = c.loop-j.invariant in (i.there, not_past i, omega arith)

pub returns-clause-verdicts : goal.returns-clause-verdicts
returns-clause-verdicts c = judging_end c.loop-j.invariant (omega arith)
