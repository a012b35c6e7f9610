use native.Mathlib.Omega.{arith}
use Rattle.lines.specs.Lines.{refused_word, at_word}
use Rattle.lines.proofs.Refusals.{number_short, refusal_put}
use Rattle.lines.proofs.lay_refusal.Goals as goal

pub put_number-b-requires : goal.put_number-b-requires
put_number-b-requires c = let short = number_short c.args.line.now 0 refused_word _ (c.put_number-a.ensures.value, c.put_number-a.ensures.line_after) c.requires in
    (short.0, omega (arith, short.1))

pub overflow_add-result : goal.overflow_add-result
overflow_add-result c = let short = number_short c.args.line.now 0 refused_word _ (c.put_number-a.ensures.value, c.put_number-a.ensures.line_after) c.requires in
    omega (arith, short.1, (number_short _ _ at_word _ (c.put_number-b.ensures.value, c.put_number-b.ensures.line_after) short.0).1)

pub returns : goal.returns
returns c = let put = refusal_put c.args.line.now _ _ _ _ c.requires c.number.ensures c.place.ensures (c.put_number-a.ensures.value, c.put_number-a.ensures.line_after) (c.put_number-b.ensures.value, c.put_number-b.ensures.line_after) c.put_bytes.ensures in
    record { value = put.0; line_after = put.1 }
