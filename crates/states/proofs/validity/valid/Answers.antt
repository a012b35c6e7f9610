use Rattle.states.proofs.ValidWords.{rule_valid, all_start, all_next, all_end, all_stop, all_none}
use Rattle.states.proofs.validity.valid.Goals as goal

pub returns-in_default : goal.returns-in_default
returns-in_default c = all_none _ _ c.in_default.ensures.cases

pub loop-i-init : goal.loop-i-init
loop-i-init c = all_start _ _ c.in-Some.ensures.cases.long

pub returns-then-not-valid_rule : goal.returns-then-not-valid_rule
returns-then-not-valid_rule c = let a = c.args in
    all_stop _ _ _ _ c.loop-i-test.true (rule_valid a.settings.of a.words.now _ c.loop-i.i _ c.valid_rule.ensures c.in-Some.ensures.cases.same) c.if-not-valid_rule.true

pub loop-i-preserved : goal.loop-i-preserved
loop-i-preserved c = let a = c.args in
    all_next _ _ _ _ c.loop-i.invariant c.loop-i-test.true (rule_valid a.settings.of a.words.now _ c.loop-i.i _ c.valid_rule.ensures c.in-Some.ensures.cases.same)
    c.if-not-valid_rule.false

pub returns : goal.returns
returns c = all_end _ _ _ c.loop-i.invariant c.loop-i-test.false
