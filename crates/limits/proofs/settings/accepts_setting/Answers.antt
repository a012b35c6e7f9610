use mir.Syntax.{w32}
use mir.Val.{SFits}
use borrow.Author.Rules.{rules}
use Rattle.limits.proofs.RuleSets.{held_limits}
use Rattle.limits.proofs.settings.accepts_setting.Goals as goal

pub returns : goal.returns
returns c = let s = c.args.setting in
    let ft : SFits w32 s.threshold = search rules in
    let fr : SFits w32 s.recovery = search rules in
    held_limits _ _ s ft fr c.accepts.ensures
