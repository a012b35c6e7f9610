use native.Mathlib.Omega.{arith}
use Rattle.trace.proofs.walk_sections.Goals as goal

pub read_section-requires-3 : goal.read_section-requires-3
read_section-requires-3 c = (c.in_ok-replies.ensures.within.0, omega (arith, c.sample_width-width.ensures, c.type_inv.s 1))
