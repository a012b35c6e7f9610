-- Paper 01, 'Three-way outputs': C open, D open, fuse and each status bit, from the statuses of the rules that drive them.
use Rattle.std.specs.Prelude.{ℕ, ◌/◌, ◌%◌, Bool, false, not, cond, ◌||◌, List, [], ◌∷◌, map, ◌⊎◌, T, eqb}
use Rattle.rules.specs.declared.Row.{Row}
use Rattle.flags.specs.declared.Flag.{Flag}
use Rattle.flags.specs.declared.Flag.TheVariants.{Clear}
use Rattle.flags.specs.declared.RuleFlags.{RuleFlags}
use Rattle.flags.specs.declared.Output.{Output}
use Rattle.flags.specs.declared.Output.TheVariants.{ChargeOpen, DischargeOpen, Fuse, TerminateChargeAlarm, OverTempAlarm, TerminateDischargeAlarm}
use Rattle.flags.specs.Flags.{with_next}

-- The rules that open C.
abbrev pub opens_charge : Row → Bool
opens_charge row = row.charge

-- The rules that open D.
abbrev pub opens_discharge : Row → Bool
opens_discharge row = row.discharge

-- The rules that command the fuse: those that latch.
abbrev pub commands_fuse : Row → Bool
commands_fuse row = not row.recovers

-- The rules that set a status bit, given as the power of two that it counts.
abbrev pub sets_bit : ℕ → Row → Bool
sets_bit bit row = eqb (row.bits / bit % 2) 1

-- The rules that drive an output: C open, D open, fuse, and the status bits 4000h, 1000h and 0800h.
abbrev pub drivers : Output → Row → Bool
drivers ChargeOpen = opens_charge
drivers DischargeOpen = opens_discharge
drivers Fuse = commands_fuse
drivers TerminateChargeAlarm = sets_bit 0x4000
drivers OverTempAlarm = sets_bit 0x1000
drivers TerminateDischargeAlarm = sets_bit 0x0800

-- The statuses of rules.
abbrev pub statuses_of : List RuleFlags → List Flag
statuses_of fs = map (λ f. f.status) fs

-- An output from the rows and their statuses: held if one of its drivers is held, clear if all are clear, else unknown.
unfoldable pub output_of : (Row → Bool) → List Row → List Flag → Flag
output_of drives [] fs = Clear
output_of drives (row ∷ rows) [] = Clear
output_of drives (row ∷ rows) (f ∷ fs) = cond (drives row) (with_next f (output_of drives rows fs)) (output_of drives rows fs)

-- An output under a filling: whether one of its drivers has status active.
unfoldable pub active_of : (Row → Bool) → List Row → List Bool → Bool
active_of drives [] bs = false
active_of drives (row ∷ rows) [] = false
active_of drives (row ∷ rows) (b ∷ bs) = cond (drives row) (b || active_of drives rows bs) (active_of drives rows bs)

-- One of the rules that drive has a status of which P holds.
unfoldable pub SomeDriver : (Row → Bool) → (Flag → Type 0) → List Row → List Flag → Type 0
SomeDriver drives P [] fs = ⊥
SomeDriver drives P (row ∷ rows) [] = ⊥
SomeDriver drives P (row ∷ rows) (f ∷ fs) = (T (drives row) × P f) ⊎ SomeDriver drives P rows fs

-- P holds of the status of every rule that drives.
unfoldable pub EveryDriver : (Row → Bool) → (Flag → Type 0) → List Row → List Flag → Type 0
EveryDriver drives P [] fs = Unit {0}
EveryDriver drives P (row ∷ rows) [] = Unit {0}
EveryDriver drives P (row ∷ rows) (f ∷ fs) = (T (drives row) → P f) × EveryDriver drives P rows fs
