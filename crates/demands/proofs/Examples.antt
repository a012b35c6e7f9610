-- Some bytes with no hole are accepted, some with a hole, and some with a hole and rules that are on.
use mathlib.Core.Path.{◌≡◌, refl}
use mathlib.Core.List.{[], ◌∷◌}
use Rattle.refusals.specs.Refusals.{answer}
use Rattle.limits.specs.Limits.{within, limits, limits_answer}
use Rattle.limits.specs.Limits as L
use Rattle.bytes_le.specs.Numbers.{spaced}
use Rattle.bytes_le.specs.Writing.{bytes_of}
use Rattle.rules.specs.Samples.{readings_of}
use Rattle.rules.specs.Quantities.{value, qualified, least, most}
use Rattle.rules.specs.Evaluation.{trips, clears}
use Rattle.flags.specs.Outputs.{output_of}
use Rattle.report.specs.Layout.{rules_bytes}
use Rattle.fillings.specs.PossibleStates.{moves, leads, next, possible}
use Rattle.fillings.specs.Flags.{flag, first_from}
use Rattle.fillings.specs.Charge.{total}
use Rattle.trace.specs.Sections.{head_answer, rules_answer, section_answer, walk_answer}
use Rattle.trace.specs.Coverage.{holes_answer, cover_answer, replies_answer}
use Rattle.trace.specs.Acceptance.{Parsed, accept_answer}
use Rattle.ticks.specs.Traces.{trace_of, shown_in}
use Rattle.demands.specs.Report.{trace_report}
use Rattle.demands.specs.promises.Examples.{without_hole, with_hole, with_rules, flag_bytes, flags_with_rules}

pub without_hole_accepted : (w : Parsed) × (accept_answer without_hole ≡ answer w) × ((trace_of without_hole w).holes ≡ [])
unfolding accept_answer walk_answer head_answer rules_answer section_answer L.rule_set_answer limits_answer limits holes_answer cover_answer replies_answer spaced
without_hole_accepted = (_, refl, refl)

pub with_hole_accepted : (w : Parsed) × (accept_answer with_hole ≡ answer w) × ((trace_of with_hole w).holes ≡ record { first = 0; last = 0 } ∷ [])
unfolding accept_answer walk_answer head_answer rules_answer section_answer L.rule_set_answer limits_answer limits holes_answer cover_answer replies_answer spaced
with_hole_accepted = (_, refl, refl)

pub with_rules_accepted : (w : Parsed)
    × (accept_answer with_rules ≡ answer w)
    × ((trace_of with_rules w).holes ≡ record { first = 2; last = 2 } ∷ [])
    × (flag_bytes (trace_of with_rules w) ≡ flags_with_rules)
unfolding accept_answer walk_answer head_answer rules_answer section_answer L.rule_set_answer limits_answer limits within least most holes_answer cover_answer replies_answer spaced readings_of value qualified trips clears moves leads next possible flag first_from shown_in total output_of bytes_of rules_bytes trace_report
with_rules_accepted = (_, refl, refl, refl)
