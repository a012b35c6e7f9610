use Rattle.states.proofs.ShiftedWords.{filled_made}
use Rattle.states.proofs.words.filled.Goals as goal

pub returns : goal.returns
returns c = filled_made c.args.w c.words_up-v.result c.args.k _ _ _ _ _ c.words_up-v.ensures
    c.joined-a.ensures c.joined-b.ensures c.joined-c.ensures c.joined-d.ensures c.joined-e.ensures
