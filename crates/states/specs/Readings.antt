-- The flags of all rules, read off the record of possible states.
use Rattle.std.specs.Prelude.{ℕ, cond, List, eqb, length}
use Rattle.lists.specs.Lists.{tabulate}
use Rattle.rules.specs.declared.Setting.{Setting}
use Rattle.rules.specs.Table.{row_at}
use Rattle.rules.specs.Evaluation.{top}
use Rattle.flags.specs.declared.Flag.TheVariants.{Unknown}
use Rattle.flags.specs.declared.RuleFlags.{RuleFlags}
use Rattle.fillings.specs.Flags.{flags_of}
use Rattle.limits.specs.Limits.{setting_of}
use Rattle.states.specs.Steps.{set_of}

-- The flags of all sixteen rules; of a list that is not eighty words long nothing is known.
unfoldable pub all_flags : List Setting → List ℕ → List RuleFlags
all_flags ss ws =
    cond (eqb (length ws) 80)
    (tabulate 16 (λ i. flags_of (row_at i) (top (setting_of ss i).time) (set_of (setting_of ss i) i ws)))
    (tabulate 16 (λ i. record { alert = Unknown; status = Unknown }))
