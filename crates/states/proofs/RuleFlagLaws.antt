-- The flags of all rules, as code reads them.
use Prim.Native.Nat.{ℕ}
use mathlib.Core.Path.{◌≡◌, refl}
use mathlib.Core.List.{List}
use lib.ListN.{length}
use borrow.Author.Tests.{eq-eqb}
use Rattle.lists.specs.Lists.{tabulate}
use Rattle.rules.specs.declared.Setting.{Setting}
use Rattle.rules.specs.Table.{row_at}
use Rattle.rules.specs.Evaluation.{top}
use Rattle.flags.specs.declared.Flag.TheVariants.{Unknown}
use Rattle.flags.specs.declared.RuleFlags.{RuleFlags}
use Rattle.fillings.specs.Flags.{flags_of}
use Rattle.limits.specs.Limits.{setting_of}
use Rattle.states.specs.Steps.{set_of}
use Rattle.states.specs.Readings.{all_flags}

-- Nothing known.
abbrev pub unknown : RuleFlags
unknown = record { alert = Unknown; status = Unknown }

-- The flags of rule i.
abbrev pub flags_in : List Setting → List ℕ → ℕ → RuleFlags
flags_in ss ws i = flags_of (row_at i) (top (setting_of ss i).time) (set_of (setting_of ss i) i ws)

module _ (ss : List Setting) (ws : List ℕ) where
  pub read_all : length ws ≡ 80 → tabulate 16 (flags_in ss ws) ≡ all_flags ss ws
  unfolding all_flags
  read_all l = rw (eq-eqb (length ws) 80 l) refl
