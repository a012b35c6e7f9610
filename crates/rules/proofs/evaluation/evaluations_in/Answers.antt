use Rattle.rules.proofs.Evaluations.{evaluations_none, evaluations_half, evaluations_all}
use Rattle.rules.proofs.evaluation.evaluations_in.Goals as goal

pub returns-then-last-first : goal.returns-then-last-first
returns-then-last-first c = evaluations_none c.args.row c.args.first c.args.last c.if-last-first.true

pub returns-then-row : goal.returns-then-row
returns-then-row c = evaluations_half c.args.row c.args.first c.args.last c.if-row.true c.if-last-first.false

pub returns : goal.returns
returns c = evaluations_all c.args.row c.args.first c.args.last c.if-row.false c.if-last-first.false
