use mathlib.Core.Path.{refl, ap, ◌∙◌}
use Rattle.std.proofs.Common.{ℕ, List}
use Rattle.lists.proofs.Laying.{laying_start, laying_next, laying_end}
use Rattle.limits.specs.Limits.{setting_of}
use Rattle.states.specs.inner.Rules.{flags_of_words}
use Rattle.states.proofs.RuleFlagLaws.{read_all}
use Rattle.states.proofs.reading.flags_in.Goals as goal

pub loop-i-init : goal.loop-i-init
loop-i-init c = laying_start _ 16 _ _ refl

pub loop-i-preserved : goal.loop-i-preserved
loop-i-preserved c = laying_next _ 16 _ _ c.loop-i.invariant c.loop-i-test.true
    (c.flags_of_rule.ensures ∙ ap (λ (w : List ℕ). flags_of_words (setting_of c.args.settings.of c.loop-i.i) w) c.load.ensures)

pub returns : goal.returns
returns c = laying_end _ 16 _ c.loop-i.invariant c.loop-i-test.false ∙ read_all _ _ c.told-words
