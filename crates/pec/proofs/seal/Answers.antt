use Rattle.pec.proofs.Replies.{stored}
use Rattle.pec.proofs.seal.Goals as goal

pub returns-clause-bytes : goal.returns-clause-bytes
returns-clause-bytes c = stored c.args.buffer.now c.args.command c.args.word c.if-buffer-ne6.false c.ranges.word.fits c.to_le_bytes.ensures c.pec.ensures
