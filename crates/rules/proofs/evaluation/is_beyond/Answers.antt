use borrow.Author.Rules.{rules}
use Rattle.rules.proofs.evaluation.is_beyond.Goals as goal

pub returns-in-High : goal.returns-in-High
returns-in-High c = rw c.in-High.is (search rules)

pub returns-in-Low : goal.returns-in-Low
returns-in-Low c = rw c.in-Low.is (search rules)
