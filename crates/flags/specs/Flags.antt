-- Paper 01, 'Three-way outputs': 0 clear, 1 held, 2 unknown.
use Rattle.std.specs.Prelude.{ℕ, Bool, true, false}
use Rattle.flags.specs.declared.Flag.{Flag}
use Rattle.flags.specs.declared.Flag.TheVariants.{Clear, Held, Unknown}

-- The number of a flag.
abbrev pub number_of : Flag → ℕ
number_of Clear = 0
number_of Held = 1
number_of Unknown = 2

-- The flag of a property, from whether a possible state has it and whether a possible state has it not. Of no state nothing is known.
abbrev pub flag_of : Bool → Bool → Flag
flag_of true true = Unknown
flag_of true false = Held
flag_of false true = Clear
flag_of false false = Unknown

-- The flag of an output with one more driver: held if one is held, clear if all are clear, else unknown.
abbrev pub with_next : Flag → Flag → Flag
with_next Clear rest = rest
with_next Held rest = Held
with_next Unknown Clear = Unknown
with_next Unknown Held = Held
with_next Unknown Unknown = Unknown
