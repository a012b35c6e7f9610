-- The parts of an accepted trace, and what is written of them.
use Prim.Native.Nat.{ℕ, ◌+◌, ◌/◌, ◌<◌}
use mathlib.Core.Path.{◌≡◌, refl, sym, ap, ◌∙◌}
use mathlib.Core.List.{List, map}
use native.Mathlib.Omega.{arith}
use lib.ListN.{length, get_or}
use Rattle.refusals.specs.Refusals.{answer}
use Rattle.trace.specs.declared.Layout.{Layout}
use Rattle.trace.specs.Records.{replies_in}
use Rattle.trace.specs.Sections.{walk_answer, holes_part, replies_part, samples_part}
use Rattle.trace.specs.Acceptance.{Parsed, accept_answer, parsed_of}
use Rattle.trace.specs.declared.Acceptance.{Acceptance}
use Rattle.trace.proofs.Layouts.{PartsAre, parts_are, length_part, replies_start, few_replies}
use Rattle.report.proofs.WholeReport.{report_whole, totals_same}
use Rattle.report.specs.Layout.{report_bytes, reported}
use Rattle.totals.proofs.AcceptedTotals as totals
use Rattle.ticks.specs.Traces.{trace_of, shown}
use Rattle.ticks.proofs.AcceptedBytes.{accepted, checks}
use Rattle.fillings.specs.Flags.{flags_at}
use Rattle.demands.specs.Report.{firsts_at, totals_at, trace_report}
use Rattle.demands.specs.Verdicts.{verdict_on, trace_verdicts}
use Rattle.walk.proofs.Starting.{stands_start}
use Rattle.judge.specs.declared.advance.Frame.{Frame}
use Rattle.judge.specs.inner.Walk.{config_in, Ready}
use Rattle.judge.specs.inner.Ending.{summed, Parts}

-- The layout of the sections is that of the trace.
pub same_count : (s : List ℕ) {l : Layout} {w : Parsed} → walk_answer s ≡ answer l → accept_answer s ≡ answer w → l.reply_count ≡ w.layout.reply_count
same_count s {l} {w} a h = let e : answer l ≡ answer w.layout = sym a ∙ (checks s w h).walked in cc

module _ (s : List ℕ) (a : Acceptance) (h : accept_answer s ≡ answer (parsed_of a)) where
  abbrev w : Parsed
  w = parsed_of a

  abbrev l : Layout
  l = a.layout

  abbrev t : ℕ
  t = a.ticks

  pub parts : PartsAre s l
  parts = parts_are s l (checks s w h).walked

  reply_count_lem : l.reply_count ≡ length (replies_part s l) / 10
  reply_count_lem =
      let g = parts in
      let long = length_part s l.replies l.replies_end (replies_start g) g.replies_end in
      omega (arith, g.counted, g.replies)

  abbrev frame : Frame
  frame = record { cells = l.cells; idle = l.idle; width = l.sample_width; ticks = t; settings = a.settings }

  ready : Ready frame
  ready = record { sound = (accepted s w h).rules; wide = parts.wide }

  pub is_parts : ((i : ℕ) → get_or s i 0 < 256) → (verdicts : ℕ) → verdicts ≡ l.reply_count
      → Parts frame (holes_part s l) (replies_part s l) (samples_part s l) verdicts
  is_parts bytes verdicts e =
      record {
        ready = ready;
        stands = stands_start s w h;
        ticks_of_replies = (accepted s w h).replies;
        count = e ∙ reply_count_lem;
        few = few_replies parts (omega (arith, bytes l.holes_end, bytes (l.holes_end + 1)));
        unseen_few = (totals.summed s w h bytes).small;
      }

  -- the totals of the parts are those of the trace
  totals_are : ((i : ℕ) → get_or s i 0 < 256) → summed l.cells (holes_part s l) (samples_part s l) t ≡ totals_at (shown (trace_of s w)) t
  totals_are bytes = let z = totals.summed s w h bytes in totals_same z.sum_in z.sum_out z.sum_unseen refl

  pub report_is : ((i : ℕ) → get_or s i 0 < 256) → (buffer : List ℕ) → length buffer ≡ 187
      → reported (flags_at (config_in frame) (shown (trace_of s w)) t) (firsts_at (config_in frame) (shown (trace_of s w)) t) (summed l.cells (holes_part s l) (samples_part s l) t) buffer
      ≡ trace_report (trace_of s w)
  unfolding trace_report
  report_is bytes buffer e =
      let fs = flags_at (config_in frame) (shown (trace_of s w)) t in
      let ts = firsts_at (config_in frame) (shown (trace_of s w)) t in
      report_whole fs ts (summed l.cells (holes_part s l) (samples_part s l) t) buffer e ∙ ap (report_bytes fs ts) (totals_are bytes)

  pub verdicts_are : map (verdict_on (config_in frame) (shown (trace_of s w))) (replies_in (replies_part s l)) ≡ trace_verdicts (trace_of s w)
  unfolding trace_verdicts
  verdicts_are = refl
