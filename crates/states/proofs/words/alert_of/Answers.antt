use mathlib.Core.Path.{◌∙◌}
use Rattle.states.proofs.SetFlags.{alert_right}
use Rattle.states.proofs.words.alert_of.Goals as goal

pub returns : goal.returns
returns c = let a = c.args in
    c.flag_of.ensures
    ∙ alert_right a.w a.top c.requires c.below-upto.result c.alerting-high.result c.some.result c.test.result
    c.below-upto.ensures c.alerting-high.ensures c.some.ensures c.test.ensures
