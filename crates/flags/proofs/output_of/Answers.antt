use Prim.Native.Nat.{◌≤◌}
use mathlib.Core.Path.{◌≡◌}
use native.Mathlib.Omega.{arith}
use lib.ListN.{length}
use borrow.Author.Rules.{rules}
use Rattle.rules.proofs.Rows.{row_of}
use Rattle.flags.proofs.Driven.{start, next, long}
use Rattle.flags.proofs.output_of.Goals as goal

pub loop-i-init : goal.loop-i-init
loop-i-init c = start _ _

pub loop-i-preserved : goal.loop-i-preserved
loop-i-preserved c = let sixteen : length c.args.flags.of ≡ 16 = search (rules, long) in
    let within : c.loop-i.i ≤ 16 = omega arith in
    next _ c.loop-i.invariant c.loop-i-test.true within sixteen (row_of _ _ _ c.all_rows-table.ensures (omega arith)) c.drives.ensures c.with_rule-found.ensures
