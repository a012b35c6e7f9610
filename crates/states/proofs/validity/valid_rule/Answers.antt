use Prim.Native.Nat.{ℕ, ◌+◌, ◌*◌, ◌≤◌}
use mathlib.Core.Path.{sym, ap, subst}
use borrow.Author.Rules.{rules}
use Rattle.rules.specs.Evaluation.{top}
use Rattle.states.proofs.RuleWords.{part}
use Rattle.states.proofs.ValidWords.{checked_start, checked_next, checked_stop, checked_end}
use Rattle.states.proofs.validity.valid_rule.Goals as goal

pub loop-j-init : goal.loop-j-init
loop-j-init c = checked_start _ _

pub loop-j-preserved : goal.loop-j-preserved
loop-j-preserved c = let a = c.args in
    checked_next _ _ c.loop-j.found c.loop-j.j _ c.loop-j.invariant c.loop-j-test.true (sym (part a.words.now (5 * a.i) c.loop-j.j c.loop-j-test.true)) (search rules)
    c.ends_below.ensures c.if-not-ends_below.false

pub returns-then-not-ends_below : goal.returns-then-not-ends_below
returns-then-not-ends_below c = let a = c.args in
    checked_stop _ _ (top a.setting.time) (ap (λ (m : ℕ). m + 1) c.top_for-end.ensures.0) c.loop-j.j _ c.loop-j-test.true
    (sym (part a.words.now (5 * a.i) c.loop-j.j c.loop-j-test.true)) (search rules) c.ends_below.ensures c.if-not-ends_below.true

pub returns : goal.returns
returns c = let a = c.args in
    let top-is = c.top_for-end.ensures in
    checked_end _ _ (top a.setting.time) (ap (λ (m : ℕ). m + 1) top-is.0) (subst (λ (m : ℕ). m ≤ 256) top-is.0 top-is.1) c.loop-j.found c.loop-j.j c.loop-j.invariant c.loop-j-test.false
