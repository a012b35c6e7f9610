use Rattle.buttmitrel.proofs.Codes.{all_stored}
use Rattle.buttmitrel_recorder.specs.Numbers.{numbers_of}
use Rattle.buttmitrel_recorder.proofs.store_numbers.Goals as goal

pub returns : goal.returns
returns c = all_stored (numbers_of c.args.r) c.args.numbers.now c.requires
