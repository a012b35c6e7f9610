-- Paper 01's fourteen marked cases and the flags of case 8 come out of the definitions.
use mathlib.Core.Path.{◌≡◌, refl}
use Rattle.rules.specs.Samples.{readings_of}
use Rattle.rules.specs.Quantities.{value, qualified}
use Rattle.rules.specs.Evaluation.{trips, clears}
use Rattle.fillings.specs.PossibleStates.{moves, leads, next, possible}
use Rattle.fillings.specs.Flags.{flag}
use Rattle.fillings.specs.promises.Marked.{computed_cases, marked_cases, case_flags, marked_flags}

pub marked_cases_lem : computed_cases ≡ marked_cases
unfolding readings_of value qualified trips clears moves leads next possible
marked_cases_lem = refl

pub marked_flags_lem : case_flags ≡ marked_flags
unfolding readings_of value qualified trips clears moves leads next possible flag
marked_flags_lem = refl
