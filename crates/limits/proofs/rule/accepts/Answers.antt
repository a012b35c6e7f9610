use borrow.Author.Rules.{sfits_of}
use borrow.Author.Tests.{eq-eqb, ne_eqb, lt-leb}
use Rattle.limits.specs.Limits.{limits}
use Rattle.limits.proofs.RuleSets.{limits_are}
use Rattle.limits.proofs.rule.accepts.Goals as goal

pub returns-then-time-eq0 : goal.returns-then-time-eq0
unfolding limits
returns-then-time-eq0 c = rw (eq-eqb _ 0 c.if-time-eq0.true)

pub returns-then-time-gt255 : goal.returns-then-time-gt255
unfolding limits
returns-then-time-gt255 c = rw (ne_eqb _ 0 c.if-time-eq0.false, lt-leb _ 255 c.if-time-gt255.true)

pub returns : goal.returns
returns c = limits_are
    _
    c.args.row
    c.if-time-eq0.false
    c.if-time-gt255.false
    (sfits_of c.least_of-lo.type_inv)
    (sfits_of c.most_of-hi.type_inv)
    c.ranges.threshold
    c.ranges.recovery
    c.least_of-lo.ensures
    c.most_of-hi.ensures
    c.is_within.ensures
