use Rattle.lists.specs.Lists.{tabulate}
use Rattle.limits.specs.Limits.{settings_of, off}
use Rattle.live.specs.Calls.{begin_answer}
use Rattle.buttmitrel_live.proofs.Feeding.{begins}
use Rattle.buttmitrel_live.proofs.buttmitrel_live_begin.Goals as goal

pub returns : goal.returns
returns c = let a = c.args in let p = begins a.words.now a.totals.now a.cells a.idle (settings_of a.rules.now) (tabulate 16 (λ i. off)) (begin_answer a.cells a.idle a.rules.now)
    c.begin.ensures.answer c.begin.ensures.state (c.store.ensures.answer, (c.store.ensures.words, c.store.ensures.totals)) in record { answer = p.0; words = p.1.0; totals = p.1.1 }
