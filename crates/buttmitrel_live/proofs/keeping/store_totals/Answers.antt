use Rattle.buttmitrel.proofs.Codes.{all_stored}
use Rattle.buttmitrel_live.specs.Live.{totals_list}
use Rattle.buttmitrel_live.proofs.keeping.store_totals.Goals as goal

pub returns : goal.returns
returns c = all_stored (totals_list c.args.from) c.args.totals.now c.requires
