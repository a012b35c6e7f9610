use Prim.Native.Nat.{◌<◌, ◌≤◌}
use native.Mathlib.Omega.{arith}
use mathlib.Core.Path.{◌≡◌}
use lib.ListN.{length}
use borrow.Author.Rules.{rules}
use Rattle.flags.proofs.Driven.{long}
use Rattle.report.specs.Layout.{rules_bytes}
use Rattle.report.proofs.Puts.{put_none}
use Rattle.report.proofs.RuleRuns.{rules_next, rules_end}
use Rattle.report.proofs.parts.put_rules.Goals as goal

pub loop-i-init : goal.loop-i-init
unfolding rules_bytes
loop-i-init c = put_none c.args.buffer.now 0

pub loop-i-preserved : goal.loop-i-preserved
loop-i-preserved c = let flags_long : length c.args.flags.of ≡ 16 = search (rules, long) in
    let ticks_long : length c.args.firsts.of ≡ 16 = search (rules, long) in
    let below : c.loop-i.i < 16 = omega arith in
    rules_next _ _ _ _ _ flags_long ticks_long c.loop-i.invariant _ _ _ below c.put_rule.ensures

pub shape_of-buffer : goal.shape_of-buffer
shape_of-buffer c = c.loop-i.invariant.long

pub returns : goal.returns
returns c = let flags_long : length c.args.flags.of ≡ 16 = search (rules, long) in
    let ticks_long : length c.args.firsts.of ≡ 16 = search (rules, long) in
    let within : c.loop-i.i ≤ 16 = omega arith in
    rules_end _ _ _ _ _ flags_long ticks_long c.loop-i.invariant within c.loop-i-test.false
