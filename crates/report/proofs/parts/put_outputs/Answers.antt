use Rattle.report.proofs.Puts.{put_then, put_number}
use Rattle.report.proofs.parts.put_outputs.Goals as goal

pub returns : goal.returns
returns c = put_then
    (put_then (put_number c.put_flag.ensures c.output_of.ensures) (put_number c.put_flag-2.ensures c.output_of-2.ensures))
    (put_number c.put_flag-3.ensures c.output_of-3.ensures)
