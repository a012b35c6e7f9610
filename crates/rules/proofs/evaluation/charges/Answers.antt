use Prim.Native.Nat.{◌<◌, ◌^◌}
use mir.Syntax.{w32}
use mir.Facts.{to_z_pos}
use borrow.Author.Rules.{rules}
use Rattle.rules.proofs.Signed.{cast_fits, cast_is}
use Rattle.rules.proofs.evaluation.charges.Goals as goal

pub overflow_cast-result : goal.overflow_cast-result
overflow_cast-result c = cast_fits tt c.ranges.current

pub returns : goal.returns
returns c = let h : c.args.idle < 2 ^ 31 = search rules in
    rw (to_z_pos w32 h, cast_is w32 tt c.ranges.current)
