use Rattle.states.specs.Records.{rule_words}
use Rattle.states.proofs.ValidWords.{Checked}
use Rattle.states.proofs.validity.valid_rule.Given as goal

abbrev pub invariant-loop-j : goal.invariant-loop-j
invariant-loop-j l = Checked (rule_words l.words l.i) l.end l.found l.j
