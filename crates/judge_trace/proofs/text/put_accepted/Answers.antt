use borrow.Author.Rules.{rules}
use Rattle.judge_trace.proofs.Lines.{accepted_stands}
use Rattle.judge_trace.proofs.text.put_accepted.Goals as goal

pub returns : goal.returns
returns c = let p = accepted_stands c.args.out.now c.args.report c.args.verdicts.now c.requires.0 (search rules) c.requires.1 c.to_digits.ensures c.put_bytes.ensures c.put_report.ensures c.put_bytes-2.ensures c.put_bytes-3.ensures in record { value = p.0; out_after = p.1.0; prefix_len = p.1.1 }
