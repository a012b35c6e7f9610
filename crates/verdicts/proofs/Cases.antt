-- What the check of a reply says, and the verdict that follows.
use Prim.Native.Nat.{ℕ}
use mathlib.Core.Path.{◌≡◌, sym}
use mathlib.Core.Bool.{Bool, true, false, cond}
use mathlib.Core.List.{List}
use lib.Dec.{eqb}
use lib.ListN.{length, get_or}
use Rattle.refusals.specs.Refusals.{Answer, answer, refused}
use Rattle.refusals.proofs.Answers.{clash, where_true}
use Rattle.pec.specs.Reply as reply
use Rattle.verdicts.specs.declared.Tick.{Tick}
use Rattle.verdicts.specs.declared.Alarms.{Alarms}
use Rattle.verdicts.specs.Verdicts.{word_of, command_verdict, verdict_of, verdict_answer}

-- A reply of six bytes.
pub answered_verdict : (tick : Tick) (a : Alarms) (s : List ℕ) (n : ℕ) → answer n ≡ reply.check_answer s → answer (cond (eqb n 0) (command_verdict tick a (get_or s 1 0) (word_of s)) n) ≡ verdict_answer tick a s
unfolding verdict_answer
answered_verdict tick a s n e =
    let w = where_true (eqb (length s) 6) 15 0 (answer (reply.check_verdict s)) (sym e) in
    let v : reply.check_verdict s ≡ n = cc in
    rw (w.0, v)

-- A reply of another length.
pub refused_verdict : (tick : Tick) (a : Alarms) (s : List ℕ) (n p : ℕ) → refused n p ≡ reply.check_answer s → refused n p ≡ verdict_answer tick a s
unfolding verdict_answer
refused_verdict tick a s n p e = go (eqb (length s) 6) e
  where
    go : (b : Bool) → ◌≡◌ {A = Answer ℕ} (refused n p) (cond b (answer (reply.check_verdict s)) (refused 15 0)) → refused n p ≡ cond b (answer (verdict_of tick a s)) (refused 15 0)
    go true g = absurd (clash g)
    go false g = g
