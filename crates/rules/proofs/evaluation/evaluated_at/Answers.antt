use Rattle.rules.proofs.evaluation.evaluated_at.Goals as goal

pub returns-then-not-row : goal.returns-then-not-row
returns-then-not-row c = rw c.if-not-row.true
