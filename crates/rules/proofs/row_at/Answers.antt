use mathlib.Core.Path.{sym}
use lib.ListN.{get_or-eq_default}
use Rattle.rules.specs.Table.{rows}
use Rattle.rules.proofs.Rows.{get_d_any}
use Rattle.rules.proofs.row_at.Goals as goal

pub returns-then-i-lt16 : goal.returns-then-i-lt16
returns-then-i-lt16 c = get_d_any rows _ _ _ c.if-i-lt16.true

pub returns : goal.returns
returns c = sym (get_or-eq_default rows _ c.if-i-lt16.false)
