-- What the judge answers, as the text's answer.
use Prim.Native.Nat.{ℕ, ◌≤◌, ◌<◌}
use mathlib.Core.Path.{◌≡◌, refl, ap, sym, ◌∙◌}
use mathlib.Core.Bool.{cond}
use mathlib.Core.List.{List}
use native.Mathlib.Omega.{arith}
use lib.Dec.{eqb}
use lib.ListN.{length}
use borrow.Author.Tests.{eq-eqb, le-leb, lt-leb}
use Rattle.refusals.specs.Refusals.{Answer, answer, refused, and_then, or_kept}
use Rattle.trace.specs.declared.Layout.{Layout}
use Rattle.trace.specs.Sections.{walk_answer, reply_count}
use Rattle.trace.specs.Acceptance.{Parsed, accept_answer}
use Rattle.ticks.specs.Traces.{trace_of}
use Rattle.demands.specs.Report.{trace_report}
use Rattle.demands.specs.Verdicts.{trace_verdicts}
use Rattle.judge.specs.Judge.{buffers_answer, acceptance, judge_answer, report_after, verdicts_after}
use Rattle.lines.specs.Lines.{refusal_line, accepted_lines}
use Rattle.judge_trace.specs.Text.{lines_of, program_text}

-- An input that is too long is refused for that; another as the trace is.
pub text_long_input : (s : List ℕ) → 65536 < length s → refusal_line 14 0 ≡ program_text s
unfolding program_text
text_long_input s h = rw (lt-leb (length s) 65536 h) refl

pub text_of_trace : (s : List ℕ) → length s ≤ 65536 → lines_of s (accept_answer s) ≡ program_text s
unfolding program_text
text_of_trace s h = rw (le-leb (length s) 65536 h) refl

-- A refusal of the walk over the sections is the trace's.
pub walk_refused : (s : List ℕ) (n p : ℕ) → refused n p ≡ reply_count (walk_answer s) → refusal_line n p ≡ lines_of s (accept_answer s)
unfolding accept_answer
walk_refused s n p h = ap (lines_of s) (sym (go (walk_answer s) refl h))
  where
    go : (a : Answer Layout) → walk_answer s ≡ a → refused n p ≡ reply_count a → accept_answer s ≡ refused n p
    go (answer l) e h = let z : ◌≡◌ {A = ℕ} 0 1 = cc in absurd (omega arith)
    go (refused m q) e h = rw e (let f : ◌≡◌ {A = Answer Parsed} (refused m q) (refused n p) = cc in f)

-- The acceptance that the judge looks at, where the buffers fit.
module _ (s report verdicts : List ℕ) (long : length report ≡ 187) (counted : answer (length verdicts) ≡ reply_count (walk_answer s)) where
  buffers_fit : buffers_answer s (length report) (length verdicts) ≡ answer tt
  unfolding buffers_answer
  buffers_fit = rw (eq-eqb (length report) 187 long) (go (walk_answer s) counted)
    where
      go : (a : Answer Layout) → answer (length verdicts) ≡ reply_count a
          → and_then a (λ l. cond (eqb (length verdicts) l.reply_count) (answer (tt {0})) (refused 13 0)) ≡ answer (tt {0})
      go (answer l) h = let k : length verdicts ≡ l.reply_count = cc in rw (eq-eqb (length verdicts) l.reply_count k) refl
      go (refused m q) h = let z : ◌≡◌ {A = ℕ} 0 1 = cc in absurd (omega arith)

  same_acceptance : acceptance s report verdicts ≡ accept_answer s
  same_acceptance = ap (λ (a : Answer (Unit {0})). and_then a (λ fit. accept_answer s)) buffers_fit

  pub judged_refused : (n p : ℕ) → refused n p ≡ judge_answer s report verdicts → refusal_line n p ≡ lines_of s (accept_answer s)
  judged_refused n p h = go (accept_answer s) (h ∙ ap (λ (a : Answer Parsed). and_then a (λ w. answer (tt {0}))) same_acceptance)
    where
      go : (a : Answer Parsed) → refused n p ≡ and_then a (λ w. answer (tt {0})) → refusal_line n p ≡ lines_of s a
      go (answer w) e = let z : ◌≡◌ {A = ℕ} 0 1 = cc in absurd (omega arith)
      go (refused m q) e = let f : n ≡ m = cc in let g : p ≡ q = cc in rw (f, g) refl

  pub judged_accepted : answer tt ≡ judge_answer s report verdicts
      → accepted_lines (report_after s report verdicts) (verdicts_after s report verdicts) ≡ lines_of s (accept_answer s)
  judged_accepted h = rw same_acceptance (go (accept_answer s) (h ∙ ap (λ (a : Answer Parsed). and_then a (λ w. answer (tt {0}))) same_acceptance))
    where
      go : (a : Answer Parsed) → answer (tt {0}) ≡ and_then a (λ w. answer (tt {0}))
          → accepted_lines (or_kept a (λ w. trace_report (trace_of s w)) report) (or_kept a (λ w. trace_verdicts (trace_of s w)) verdicts) ≡ lines_of s a
      go (answer w) e = refl
      go (refused m q) e = let z : ◌≡◌ {A = ℕ} 0 1 = cc in absurd (omega arith)
