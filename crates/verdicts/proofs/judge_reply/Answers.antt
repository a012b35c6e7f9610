use mathlib.Core.Path.{ap, sym, ◌∙◌}
use Rattle.std.proofs.lemmas.Result.{err_from_is_err_and}
use Rattle.pec.specs.Reply as reply
use Rattle.refusals.specs.Refusals.{answer}
use Rattle.verdicts.proofs.Cases.{answered_verdict, refused_verdict}
use Rattle.verdicts.proofs.judge_reply.Goals as goal

pub returns-in_err-check : goal.returns-in_err-check
returns-in_err-check c = let p = err_from_is_err_and c.from_residual.result c.from_residual.ensures.1 in
    rw (p.1, p.2) (refused_verdict _ _ _ _ _ c.in_err-check.ensures)

pub returns-in-WrongAddress : goal.returns-in-WrongAddress
returns-in-WrongAddress c = answered_verdict _ _ _ 1 (ap (λ k. answer (reply.number_of k)) (sym c.in-WrongAddress.is) ∙ c.in_ok-check.ensures)

pub returns-in-WrongCode : goal.returns-in-WrongCode
returns-in-WrongCode c = answered_verdict _ _ _ 2 (ap (λ k. answer (reply.number_of k)) (sym c.in-WrongCode.is) ∙ c.in_ok-check.ensures)

pub returns-in-Intact : goal.returns-in-Intact
returns-in-Intact c = ap answer c.judge_whole.ensures ∙ answered_verdict _ _ _ 0 (ap (λ k. answer (reply.number_of k)) (sym c.in-Intact.is) ∙ c.in_ok-check.ensures)
