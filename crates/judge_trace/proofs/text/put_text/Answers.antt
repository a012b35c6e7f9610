use native.Mathlib.Omega.{arith}
use mathlib.Core.Path.{ap, sym, ◌∙◌}
use borrow.Author.Rules.{rules}
use Rattle.refusals.specs.Refusals.{answer_of}
use Rattle.trace.proofs.Layouts.{reply_count_low}
use Rattle.judge_trace.specs.Text.{program_text}
use Rattle.judge_trace.proofs.Answers.{text_long_input, text_of_trace, walk_refused}
use Rattle.judge_trace.proofs.Lines.{stands_as, refusal_stands}
use Rattle.judge_trace.proofs.text.put_text.Goals as goal

pub returns-then-s-gt65536 : goal.returns-then-s-gt65536
returns-then-s-gt65536 c = let s = c.args.s.now in
    let out = c.args.out.now in let p = stands_as out _ (program_text s) (text_long_input s (search rules)) (refusal_stands out 14 0 c.requires (c.put_refusal.ensures.put, (c.put_refusal.ensures.bytes, c.put_refusal.ensures.counts))) in record { length = p.0; bytes = p.1.0; counts = p.1.1 }

pub put_judged-requires : goal.put_judged-requires
put_judged-requires c = let n = sym (ap answer_of c.in-Ok.is) ∙ c.reply_count.ensures in
    let low = reply_count_low c.args.s.now _ n in
    (c.requires, omega (arith, low, c.if-s-gt65536.false), n)

pub returns-in-Err : goal.returns-in-Err
returns-in-Err c = let s = c.args.s.now in
    let out = c.args.out.now in let p = stands_as out _ (program_text s) (walk_refused s _ _ (sym (ap answer_of c.in-Err.is) ∙ c.reply_count.ensures) ∙ text_of_trace s c.if-s-gt65536.false) (refusal_stands out _ _ c.requires (c.put_refusal-in-Err.ensures.put, (c.put_refusal-in-Err.ensures.bytes, c.put_refusal-in-Err.ensures.counts))) in record { length = p.0; bytes = p.1.0; counts = p.1.1 }

pub returns-in-Ok : goal.returns-in-Ok
returns-in-Ok c = let s = c.args.s.now in let p = stands_as c.args.out.now _ (program_text s) (text_of_trace s c.if-s-gt65536.false) (c.put_judged.ensures.value, (c.put_judged.ensures.out_after, c.put_judged.ensures.prefix_len)) in record { length = p.0; bytes = p.1.0; counts = p.1.1 }
