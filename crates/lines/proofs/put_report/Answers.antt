use mathlib.Core.Path.{ap, ◌∙◌}
use Rattle.bytes_le.specs.Writing.{put_at}
use Rattle.lines.proofs.put_report.Goals as goal

pub returns : goal.returns
returns c = c.put_bytes.ensures ∙ ap (put_at c.args.buffer.now c.args.at) c.hex_line-text.ensures
