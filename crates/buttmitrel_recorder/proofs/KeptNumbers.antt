-- A record kept as six numbers is the record.
use Prim.Native.Nat.{ℕ}
use mathlib.Core.Path.{◌≡◌, refl}
use mathlib.Core.List.{List}
use mathlib.Core.Bool.{cond}
use lib.Dec.{eqb}
use lib.ListN.{length}
use borrow.Author.Tests.{eq-eqb}
use Rattle.refusals.specs.Refusals.{Answer, answer, refused, and_then, or_kept}
use Rattle.recording.specs.Recorder.{start_answer, offered, drained}
use Rattle.recording.specs.declared.Recorder.{Recorder}
use Rattle.buttmitrel_recorder.specs.Numbers.{numbers_of}
use Rattle.buttmitrel_recorder.specs.promises.KeptInNumbers.{KeptInNumbers}

after_call : {A : Type 0} (f : A → Recorder) (r : Recorder) (a : Answer A) → or_kept a (λ x. numbers_of (f x)) (numbers_of r) ≡ numbers_of (or_kept a f r)
after_call f r (answer x) = refl
after_call f r (refused p q) = refl

started : (a : Answer Recorder) (six : List ℕ) → length six ≡ 6 → and_then a (λ r. cond (eqb (length six) 6) (answer r) (refused 15 0)) ≡ a
started (answer r) six l = rw (eq-eqb (length six) 6 l) refl
started (refused p q) six l = refl

pub kept_in_numbers : KeptInNumbers
kept_in_numbers =
    record {
      start = λ n number six l. started (start_answer n number) six l;
      offer = λ r store tick x. refl;
      drain = λ r store buffer. refl;
      after_offer = λ r store tick x. after_call (λ a. a.recorder) r (offered r store tick x);
      after_drain = λ r store buffer. after_call (λ a. a.recorder) r (drained r store buffer);
    }
