-- What is read at each place of a report.
use Prim.Native.Nat.{ℕ, zero, suc, ◌+◌, ◌*◌, ◌≤◌, ◌<◌}
use mathlib.Core.Path.{◌≡◌, refl, sym, ap, ◌∙◌}
use mathlib.Core.Bool.{Bool, true, false, cond}
use mathlib.Core.List.{List, ◌++◌, append_assoc}
use native.Mathlib.Omega.{arith}
use native.Mathlib.Nat.{add-zero}
use lib.ListN.{length, get_or, drop, length-append, get_or-append}
use lib.Seq.{drop_at, drop-append-add}
use Rattle.lists.specs.Lists.{tabulate}
use Rattle.bytes_le.specs.Numbers.{u32_at, u64_at}
use Rattle.bytes_le.specs.Writing.{bytes_of}
use Rattle.bytes_le.proofs.ByteLists.{byte_behind, u32_behind, u64_behind}
use Rattle.flags.specs.declared.RuleFlags.{RuleFlags}
use Rattle.flags.specs.declared.Output.TheVariants.{ChargeOpen, DischargeOpen, Fuse}
use Rattle.flags.specs.Flags.{number_of}
use Rattle.flags.specs.Outputs.{drivers}
use Rattle.report.specs.declared.FirstTicks.{FirstTicks}
use Rattle.report.specs.declared.Totals.{Totals}
use Rattle.report.specs.Layout.{rule_bytes, rules_bytes, output_bytes, total_bytes, report_bytes}
use Rattle.fillings.specs.Flags.{rule_flags, alert_flag, status_flag, first_from, first_possible, first_held}
use Rattle.fillings.specs.Outputs.{output}
use Rattle.fillings.specs.Charge.{charge_in, charge_out, unseen_ticks}
use Rattle.ticks.specs.Traces.{Trace, shown}
use Rattle.demands.specs.Report.{totals_at, trace_report}
use Rattle.demands.specs.Reading.{possible_from, held_from, rule_in}

rule_long : (x : RuleFlags) (y : FirstTicks) → length (rule_bytes x y) ≡ 10
unfolding bytes_of
rule_long x y = refl

rules_long : (n : ℕ) (f : ℕ → RuleFlags) (g : ℕ → FirstTicks) → length (rules_bytes (tabulate n f) (tabulate n g)) ≡ 10 * n
unfolding rules_bytes
rules_long zero f g = refl
rules_long (suc n) f g =
    let l = rules_long n (λ i. f (suc i)) (λ i. g (suc i)) in
    omega (arith, length-append (rule_bytes (f 0) (g 0)) (rules_bytes (tabulate n (λ i. f (suc i))) (tabulate n (λ i. g (suc i)))), rule_long (f 0) (g 0))

-- Behind the first rule.
past_rule : (a b more : List ℕ) (i : ℕ) → length a ≡ 10 → drop (10 * suc i) (a ++ b ++ more) ≡ drop (10 * i) (b ++ more)
past_rule a b more i e =
    let z : 10 * suc i ≡ length a + 10 * i = omega arith in
    rw (append_assoc a b more, z) (drop-append-add a (b ++ more) (10 * i))

-- The bytes of rule i start at 10 i.
rule_behind : (n : ℕ) (f : ℕ → RuleFlags) (g : ℕ → FirstTicks) (more : List ℕ) (i : ℕ) → i < n
    → (rest : List ℕ) × (drop (10 * i) (rules_bytes (tabulate n f) (tabulate n g) ++ more) ≡ rule_bytes (f i) (g i) ++ rest)
unfolding rules_bytes
rule_behind zero f g more i h = absurd (omega arith)
rule_behind (suc n) f g more zero h =
    (rules_bytes (tabulate n (λ j. f (suc j))) (tabulate n (λ j. g (suc j))) ++ more, append_assoc (rule_bytes (f 0) (g 0)) _ more)
rule_behind (suc n) f g more (suc i) h =
    let (rest, e) = rule_behind n (λ j. f (suc j)) (λ j. g (suc j)) more i (omega arith) in
    (rest, past_rule (rule_bytes (f 0) (g 0)) _ more i (rule_long (f 0) (g 0)) ∙ e)

-- The first ticks of a rule.
possible_read : (x : RuleFlags) (y : FirstTicks) (l : List ℕ) → y.possible < 4294967296 → u32_at (rule_bytes x y ++ l) 2 ≡ y.possible
unfolding bytes_of
possible_read x y l h = omega arith

held_read : (x : RuleFlags) (y : FirstTicks) (l : List ℕ) → y.held < 4294967296 → u32_at (rule_bytes x y ++ l) 6 ≡ y.held
unfolding bytes_of
held_read x y l h = omega arith

-- The totals, behind the three outputs.
in_read : (fs : List RuleFlags) (t : Totals) → t.charge_in < 18446744073709551616 → u64_at (output_bytes fs ++ total_bytes t) 3 ≡ t.charge_in
unfolding bytes_of
in_read fs t h = omega arith

out_read : (fs : List RuleFlags) (t : Totals) → t.charge_out < 18446744073709551616 → u64_at (output_bytes fs ++ total_bytes t) 11 ≡ t.charge_out
unfolding bytes_of
out_read fs t h = omega arith

unseen_read : (fs : List RuleFlags) (t : Totals) → t.unseen < 4294967296 → u32_at (output_bytes fs ++ total_bytes t) 19 ≡ t.unseen
unfolding bytes_of
unseen_read fs t h = omega arith

ticks_read : (fs : List RuleFlags) (t : Totals) → t.ticks < 4294967296 → u32_at (output_bytes fs ++ total_bytes t) 23 ≡ t.ticks
unfolding bytes_of
ticks_read fs t h = omega arith

module _ (f : ℕ → RuleFlags) (g : ℕ → FirstTicks) (t : Totals) where
  abbrev whole : List ℕ
  whole = report_bytes (tabulate 16 f) (tabulate 16 g) t

  abbrev rules : List ℕ
  rules = rules_bytes (tabulate 16 f) (tabulate 16 g)

  abbrev ends : List ℕ
  ends = output_bytes (tabulate 16 f) ++ total_bytes t

  in_two : whole ≡ rules ++ ends
  in_two = append_assoc rules (output_bytes (tabulate 16 f)) (total_bytes t)

  at_rule : (i : ℕ) → i < 16 → (rest : List ℕ) × (drop (10 * i) whole ≡ rule_bytes (f i) (g i) ++ rest)
  at_rule i h = let (rest, e) = rule_behind 16 f g ends i h in (rest, ap (drop (10 * i)) in_two ∙ e)

  at_end : drop 160 whole ≡ ends
  at_end = ap (drop 160) in_two ∙ drop_at rules ends 160 (rules_long 16 f g)

  whole_long : length whole ≡ 187
  unfolding bytes_of
  whole_long = ap length in_two ∙ length-append rules ends ∙ ap (λ k. k + length ends) (rules_long 16 f g)

  whole_alert : (i : ℕ) → i < 16 → get_or whole (10 * i) 0 ≡ number_of (f i).alert
  whole_alert i h =
      let (rest, e) = at_rule i h in
      ap (λ k. get_or whole k 0) (sym (add-zero (10 * i))) ∙ byte_behind whole (rule_bytes (f i) (g i) ++ rest) (10 * i) 0 e

  whole_status : (i : ℕ) → i < 16 → get_or whole (10 * i + 1) 0 ≡ number_of (f i).status
  whole_status i h = let (rest, e) = at_rule i h in byte_behind whole (rule_bytes (f i) (g i) ++ rest) (10 * i) 1 e

  whole_possible : (i : ℕ) → i < 16 → (g i).possible < 4294967296 → u32_at whole (10 * i + 2) ≡ (g i).possible
  whole_possible i h b =
      let (rest, e) = at_rule i h in
      u32_behind whole (rule_bytes (f i) (g i) ++ rest) (10 * i) 2 e ∙ possible_read (f i) (g i) rest b

  whole_held : (i : ℕ) → i < 16 → (g i).held < 4294967296 → u32_at whole (10 * i + 6) ≡ (g i).held
  whole_held i h b =
      let (rest, e) = at_rule i h in
      u32_behind whole (rule_bytes (f i) (g i) ++ rest) (10 * i) 6 e ∙ held_read (f i) (g i) rest b

  whole_outputs : (k : ℕ) → k < 3 → get_or whole (160 + k) 0 ≡ get_or (output_bytes (tabulate 16 f)) k 0
  whole_outputs k h = byte_behind whole ends 160 k at_end ∙ get_or-append (output_bytes (tabulate 16 f)) (total_bytes t) 0 k h

  whole_in : t.charge_in < 18446744073709551616 → u64_at whole 163 ≡ t.charge_in
  whole_in h = u64_behind whole ends 160 3 at_end ∙ in_read (tabulate 16 f) t h

  whole_out : t.charge_out < 18446744073709551616 → u64_at whole 171 ≡ t.charge_out
  whole_out h = u64_behind whole ends 160 11 at_end ∙ out_read (tabulate 16 f) t h

  whole_unseen : t.unseen < 4294967296 → u32_at whole 179 ≡ t.unseen
  whole_unseen h = u32_behind whole ends 160 19 at_end ∙ unseen_read (tabulate 16 f) t h

  whole_ticks : t.ticks < 4294967296 → u32_at whole 183 ≡ t.ticks
  whole_ticks h = u32_behind whole ends 160 23 at_end ∙ ticks_read (tabulate 16 f) t h

-- The first tick at which a test holds, or FFFFFFFFh, is a u32.
first_small : (i n : ℕ) (test : ℕ → Bool) → i + n ≤ 0xFFFFFFFF → first_from i n test < 4294967296
unfolding first_from
first_small i zero test h = omega arith
first_small i (suc n) test h = go (test i) (first_small (suc i) n test (omega arith))
  where
    go : (b : Bool) → first_from (suc i) n test < 4294967296 → cond b i (first_from (suc i) n test) < 4294967296
    go true l = omega arith
    go false l = l

-- The report of a trace.
module _ (tr : Trace) where
  abbrev flags_of : ℕ → RuleFlags
  flags_of i = rule_flags (rule_in tr i) (shown tr) tr.ticks

  abbrev firsts_of : ℕ → FirstTicks
  firsts_of i = record { possible = first_possible (rule_in tr i) (shown tr) tr.ticks; held = first_held (rule_in tr i) (shown tr) tr.ticks }

  abbrev totals : Totals
  totals = totals_at (shown tr) tr.ticks

  pub report_long : length (trace_report tr) ≡ 187
  unfolding trace_report
  report_long = whole_long flags_of firsts_of totals

  pub report_alert : (i : ℕ) → i < 16 → get_or (trace_report tr) (10 * i) 0 ≡ number_of (alert_flag (rule_in tr i) (shown tr) tr.ticks)
  unfolding trace_report
  report_alert = whole_alert flags_of firsts_of totals

  pub report_status : (i : ℕ) → i < 16 → get_or (trace_report tr) (10 * i + 1) 0 ≡ number_of (status_flag (rule_in tr i) (shown tr) tr.ticks)
  unfolding trace_report
  report_status = whole_status flags_of firsts_of totals

  pub report_possible : (i : ℕ) → i < 16 → tr.ticks ≤ 0xFFFFFFFF → possible_from tr i ≡ first_possible (rule_in tr i) (shown tr) tr.ticks
  unfolding trace_report
  report_possible i h l = whole_possible flags_of firsts_of totals i h (first_small 0 tr.ticks _ (omega arith))

  pub report_held : (i : ℕ) → i < 16 → tr.ticks ≤ 0xFFFFFFFF → held_from tr i ≡ first_held (rule_in tr i) (shown tr) tr.ticks
  unfolding trace_report
  report_held i h l = whole_held flags_of firsts_of totals i h (first_small 0 tr.ticks _ (omega arith))

  pub report_charge : get_or (trace_report tr) 160 0 ≡ number_of (output (drivers ChargeOpen) tr.config (shown tr) tr.ticks)
  unfolding trace_report
  report_charge = whole_outputs flags_of firsts_of totals 0 (omega arith)

  pub report_discharge : get_or (trace_report tr) 161 0 ≡ number_of (output (drivers DischargeOpen) tr.config (shown tr) tr.ticks)
  unfolding trace_report
  report_discharge = whole_outputs flags_of firsts_of totals 1 (omega arith)

  pub report_fuse : get_or (trace_report tr) 162 0 ≡ number_of (output (drivers Fuse) tr.config (shown tr) tr.ticks)
  unfolding trace_report
  report_fuse = whole_outputs flags_of firsts_of totals 2 (omega arith)

  pub report_in : charge_in (shown tr) tr.ticks < 18446744073709551616 → u64_at (trace_report tr) 163 ≡ charge_in (shown tr) tr.ticks
  unfolding trace_report
  report_in = whole_in flags_of firsts_of totals

  pub report_out : charge_out (shown tr) tr.ticks < 18446744073709551616 → u64_at (trace_report tr) 171 ≡ charge_out (shown tr) tr.ticks
  unfolding trace_report
  report_out = whole_out flags_of firsts_of totals

  pub report_unseen : unseen_ticks (shown tr) tr.ticks < 4294967296 → u32_at (trace_report tr) 179 ≡ unseen_ticks (shown tr) tr.ticks
  unfolding trace_report
  report_unseen = whole_unseen flags_of firsts_of totals

  pub report_ticks : tr.ticks < 4294967296 → u32_at (trace_report tr) 183 ≡ tr.ticks
  unfolding trace_report
  report_ticks = whole_ticks flags_of firsts_of totals
