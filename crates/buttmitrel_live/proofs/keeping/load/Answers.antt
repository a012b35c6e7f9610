use mathlib.Core.Path.{sym, ◌∙◌}
use Rattle.buttmitrel_live.proofs.KeptLists.{unloaded, loaded}
use Rattle.buttmitrel_live.proofs.keeping.load.Goals as goal

pub returns-then-is_err : goal.returns-then-is_err
returns-then-is_err c = let a = c.args in
    unloaded a.cells a.idle a.rules.now a.words.now a.totals.now c.begin-begun.result.answer (sym c.is_err.ensures.value ∙ c.if-is_err.true) c.begin-begun.ensures.answer

pub returns : goal.returns
returns c = let a = c.args in
    loaded a.cells a.idle a.rules.now a.words.now a.totals.now c.begin-begun.result.answer (sym c.is_err.ensures.value ∙ c.if-is_err.false) c.begin-begun.ensures.answer c.begin-begun.ensures.state c.fill.result c.fill.ensures
