-- Paper 01, 'Three-way outputs': an output of a trace, and the same output under a filling.
use Rattle.std.specs.Prelude.{ℕ, Bool, List}
use Rattle.lists.specs.Lists.{tabulate}
use Rattle.rules.specs.declared.Row.{Row}
use Rattle.rules.specs.Samples.{Sample}
use Rattle.rules.specs.Table.{rows}
use Rattle.rules.specs.Evaluation.{status}
use Rattle.flags.specs.declared.Flag.{Flag}
use Rattle.flags.specs.Outputs.{output_of, active_of}
use Rattle.fillings.specs.Fillings.{Config, rule_of, last, Shown, after}
use Rattle.fillings.specs.Flags.{status_flag}

-- The statuses of the sixteen rules once the first k ticks have passed.
abbrev pub statuses : Config → (ℕ → Shown) → ℕ → List Flag
statuses p trace k = tabulate 16 (λ i. status_flag (rule_of p i) trace k)

-- The output that the rules of a kind drive.
abbrev pub output : (Row → Bool) → Config → (ℕ → Shown) → ℕ → Flag
output drives p trace k = output_of drives rows (statuses p trace k)

-- The same under a filling.
abbrev pub active : (Row → Bool) → Config → (ℕ → Shown) → (ℕ → Sample) → ℕ → Bool
active drives p trace f k =
    active_of drives rows (tabulate 16 (λ i. status (last (rule_of p i)) (after (rule_of p i) trace f k)))
