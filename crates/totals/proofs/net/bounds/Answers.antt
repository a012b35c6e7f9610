use Rattle.totals.proofs.NetBounds.{sure_exact, less_exact, more_exact}
use Rattle.totals.proofs.net.bounds.Goals as goal

pub overflow_sub-sure : goal.overflow_sub-sure
overflow_sub-sure c = (sure_exact c.requires).fits

pub overflow_sub-result : goal.overflow_sub-result
overflow_sub-result c = (less_exact c.requires _ tt).fits

pub overflow_add-result : goal.overflow_add-result
overflow_add-result c = (more_exact c.requires _ tt).fits

pub returns : goal.returns
returns c = rw ((less_exact c.requires 32768 tt).reads, (more_exact c.requires 32767 tt).reads)
