use Rattle.bounds.proofs.RunTicks.{tick_until}
use Rattle.rules.proofs.Evaluations.{evaluations_none}
use Rattle.lists.proofs.Bools.{by_order}
use Rattle.rules.specs.Evaluation.{evaluations}
use native.Mathlib.Omega.{arith}
use Prim.Native.Nat.{suc, ◌-◌, ◌<◌, ◌≤◌}
use Rattle.bounds.proofs.unseen.top_tick.Goals as goal

pub overflow_cast-result : goal.overflow_cast-result
overflow_cast-result c = let e = c.requires in
    let h : c.args.top - c.args.s ≤ evaluations c.args.row c.args.first (suc c.args.last) = omega (arith, c.if-from-n.true, e) in
    let some : 0 < c.args.top - c.args.s = omega (arith, c.if-s-top.true) in
    let run : c.args.first ≤ c.args.last = by_order c.args.last c.args.first (λ l. absurd (omega (arith, h, some, evaluations_none c.args.row c.args.first c.args.last l))) (λ l. l) in
    record { fits = omega (arith, c.tick_of.ensures, tick_until c.args.row c.args.first c.args.last (c.args.top - c.args.s) run some h, c.ranges.last) }
