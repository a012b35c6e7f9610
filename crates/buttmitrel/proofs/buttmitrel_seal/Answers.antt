use mathlib.Core.Path.{ap, ◌∙◌}
use Rattle.buttmitrel.specs.Code.{code_of}
use Rattle.buttmitrel.proofs.buttmitrel_seal.Goals as goal

pub returns-clause-answer : goal.returns-clause-answer
returns-clause-answer c = c.status.ensures ∙ ap code_of c.seal.ensures.answer
