use native.Mathlib.Omega.{arith}
use borrow.Author.Rules.{rules}
use Rattle.lines.proofs.Decimals.{digits_few, number_put}
use Rattle.lines.proofs.put_number.Goals as goal

pub overflow_add-result-2 : goal.overflow_add-result-2
overflow_add-result-2 c = omega (arith, c.requires, digits_few c.args.n c.decimal-k.result (search rules) c.decimal-k.ensures.len)

pub returns : goal.returns
returns c = let put = number_put c.args.line.now c.args.at c.args.word.now c.args.n c.decimal-k.result c.requires.0 c.requires.1 (search rules) c.decimal-k.ensures.len c.decimal-k.ensures.digits c.put_bytes.ensures c.put_bytes-2.ensures in
    record { value = put.0; line_after = put.1 }
