use mathlib.Core.Path.{◌≡◌}
use Rattle.hex.specs.Hex.{encode_lower}
use Rattle.lines.proofs.HexLines.{line_encoded}
use Rattle.lines.proofs.hex_line.Goals as goal

pub returns : goal.returns
returns c =
    let written : c.encode_to_slice.new.output ≡ encode_lower c.args.report.now = rw c.unwrap.ensures at c.encode_to_slice.ensures.written in
    line_encoded _ _ c.fits-report written
