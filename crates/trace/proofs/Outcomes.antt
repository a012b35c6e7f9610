-- What the chain of the checks answers, by what each check answers.
use Prim.Native.Nat.{ℕ}
use mathlib.Core.Path.{◌≡◌, refl, sym}
use mathlib.Core.List.{List}
use Rattle.refusals.specs.Refusals.{Answer, answer, refused}
use Rattle.rules.specs.declared.Setting.{Setting}
use Rattle.limits.specs.Limits.{rule_set_answer, settings_of, with_settings}
use Rattle.trace.specs.Sections.{walk_answer, rules_part}
use Rattle.trace.specs.declared.Layout.{Layout}
use Rattle.trace.specs.Acceptance.{records_answer, accept_answer}
use Rattle.refusals.proofs.Answers.{clash}

-- A rule set passed: its settings are handed on.
pub passed : (a : Answer (Unit {0})) {ss of : List Setting} → answer of ≡ with_settings a ss → (a ≡ answer tt) × (of ≡ ss)
passed (answer u) h = (refl, cc)
passed (refused n p) h = absurd (clash (sym h))

pub accepted : (s : List ℕ) {l : Layout} → walk_answer s ≡ answer l → {u : Unit {0}} → rule_set_answer l.cells (rules_part s) ≡ answer u
    → {t : ℕ} → records_answer s l ≡ answer t → accept_answer s ≡ answer (record { layout = l; settings = settings_of (rules_part s); ticks = t })
unfolding accept_answer
accepted s walk limits records = rw (walk, limits, records)
