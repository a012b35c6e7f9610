use Rattle.bounds.proofs.Values.{told}
use Rattle.rules.proofs.Rows.{row_of}
use Rattle.rules.specs.declared.Row.{Row}
use mir.Syntax.{w32}
use mathlib.Core.Path.{refl, ap, ◌∙◌}
use native.Mathlib.Omega.{arith}
use Rattle.bounds.specs.Plan.{test_at, tests_of}
use Rattle.lists.proofs.Laying.{laying_start, laying_next, laying_end}
use Rattle.limits.specs.Limits.{setting_of}
use lib.IntN.{pos}
use Prim.Native.Nat.{◌/◌, ◌%◌}
use Rattle.bounds.proofs.tests_of.Goals as goal

pub loop-j-init : goal.loop-j-init
loop-j-init c = laying_start (pos 0) 64 _ _ refl

pub loop-j-preserved : goal.loop-j-preserved
loop-j-preserved c = let r = row_of _ (c.loop-j.j % 16) _ c.all_rows-table.ensures (omega arith) in
    laying_next (pos 0) 64 _ _ c.loop-j.invariant c.loop-j-test.true
    (told {w = w32} (search c.test_at.type_inv) (c.test_at.ensures ∙ ap (λ (w : Row). test_at (c.loop-j.j / 16) w (setting_of c.args.settings.of (c.loop-j.j % 16))) r))

pub returns : goal.returns
unfolding tests_of
returns c = laying_end (pos 0) 64 _ c.loop-j.invariant c.loop-j-test.false
