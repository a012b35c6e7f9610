use Prim.Native.Nat.{suc, ◌+◌, ◌-◌}
use mathlib.Core.Path.{◌≡◌}
use native.Mathlib.Omega.{arith}
use Rattle.live.proofs.steps.count_hole.Goals as goal

pub returns : goal.returns
returns c = let a = c.args in
    let e : a.last - a.counted.ticks + 1 ≡ suc a.last - a.counted.ticks = omega arith in
    rw e
