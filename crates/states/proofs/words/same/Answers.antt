use borrow.Author.Rules.{rules}
use Rattle.states.proofs.FiveWords.{same_made}
use Rattle.states.proofs.words.same.Goals as goal

pub returns : goal.returns
returns c = same_made c.args.v c.args.w (search rules) (search rules)
