use mathlib.Core.Path.{sym}
use mir.Syntax.{w16}
use mir.ValLaws.{to_z-of_z}
use Rattle.live.proofs.Stepping.{refuses, unread, read}
use Rattle.live.proofs.steps.take_sample.Goals as goal

pub returns-in-Err : goal.returns-in-Err
returns-in-Err c = refuses c.refuse.ensures (unread _ _ _ c.requires (rw (to_z-of_z w16 c.args.current c.ranges.current, to_z-of_z w16 c.args.board c.ranges.board) at c.in-Err.ensures))

pub returns-in-Ok : goal.returns-in-Ok
returns-in-Ok c = let (r, t) = read c.args.state c.args.tick _ c.requires (rw (to_z-of_z w16 c.args.current c.ranges.current, to_z-of_z w16 c.args.board c.ranges.board) at c.in-Ok.ensures) in
    rw t (c.take_readings.ensures _ (sym (to_z-of_z w16 c.args.current c.ranges.current)) r)
