use Rattle.rules.proofs.Tops.{top_is}
use Rattle.rules.proofs.evaluation.top_of.Goals as goal

pub returns : goal.returns
returns c = top_is c.args.time
