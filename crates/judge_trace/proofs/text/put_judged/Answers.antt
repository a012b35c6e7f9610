use native.Mathlib.Omega.{arith}
use mathlib.Core.Path.{refl, ap, ap₂, sym, ◌∙◌}
use lib.ListN.{take, replicate}
use lib.Seq.{length-take-le}
use Rattle.refusals.specs.Refusals.{answer, answer_of}
use Rattle.trace.specs.Acceptance.{accept_answer}
use Rattle.lines.specs.Lines.{accepted_lines}
use Rattle.judge_trace.specs.Text.{lines_of}
use Rattle.judge_trace.proofs.Answers.{judged_refused, judged_accepted}
use Rattle.judge_trace.proofs.Lines.{stands_as, refusal_stands}
use Rattle.judge_trace.proofs.text.put_judged.Goals as goal

pub slice_bounds-verdicts-end : goal.slice_bounds-verdicts-end
slice_bounds-verdicts-end c = sym (length-take-le c.args.n c.buffer-space.result (omega (arith, c.requires.1, c.buffer-space.ensures)))

pub put_accepted-requires : goal.put_accepted-requires
put_accepted-requires c = let counted = length-take-le c.args.n c.buffer-space.result (omega (arith, c.requires.1, c.buffer-space.ensures)) in
    (c.requires.0, omega (arith, c.requires.1, c.judge.auto.verdicts, counted))

pub returns-in-Err : goal.returns-in-Err
returns-in-Err c = let s = c.args.s.now in
    let out = c.args.out.now in
    let counted = length-take-le c.args.n c.buffer-space.result (omega (arith, c.requires.1, c.buffer-space.ensures)) in let p = stands_as out _ (lines_of s (accept_answer s)) (judged_refused s (replicate 187 0) (take c.args.n c.buffer-space.result) refl (ap answer counted ∙ c.requires.2) _ _ (sym (ap answer_of c.in-Err.is) ∙ c.judge.ensures.answer)) (refusal_stands out _ _ c.requires.0 (c.put_refusal.ensures.put, (c.put_refusal.ensures.bytes, c.put_refusal.ensures.counts))) in record { value = p.0; out_after = p.1.0; prefix_len = p.1.1 }

pub returns-in-Ok : goal.returns-in-Ok
returns-in-Ok c = let s = c.args.s.now in
    let counted = length-take-le c.args.n c.buffer-space.result (omega (arith, c.requires.1, c.buffer-space.ensures)) in let p = stands_as c.args.out.now _ (lines_of s (accept_answer s)) (ap₂ accepted_lines c.judge.ensures.report c.judge.ensures.verdicts ∙ judged_accepted s (replicate 187 0) (take c.args.n c.buffer-space.result) refl (ap answer counted ∙ c.requires.2) (sym (ap answer_of c.in-Ok.is) ∙ c.judge.ensures.answer)) (c.put_accepted.ensures.value, (c.put_accepted.ensures.out_after, c.put_accepted.ensures.prefix_len)) in record { value = p.0; out_after = p.1.0; prefix_len = p.1.1 }
