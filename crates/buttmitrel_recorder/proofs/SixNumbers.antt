-- A record kept as six numbers, before and after a call.
use Prim.Native.Nat.{ℕ}
use mathlib.Core.Path.{◌≡◌, refl, sym, ap, ap₂, ◌∙◌}
use mathlib.Core.Bool.{cond}
use mathlib.Core.List.{List, [], ◌∷◌}
use native.Mathlib.Omega.{arith}
use lib.Dec.{eqb}
use lib.IntN.{ℤ}
use lib.ListN.{length, set}
use borrow.Author.Tests.{eq-eqb, ne_eqb}
use mir.Syntax.{w16}
use mir.Val.{to_z, of_z, SFits}
use Rattle.refusals.specs.Refusals.{Answer, answer, refused, and_then, or_kept}
use Rattle.recording.specs.declared.Recorder.{Recorder}
use Rattle.rules.specs.Samples.{sample_of}
use Rattle.recording.specs.Recorder.{start_answer, offered}
use Rattle.recording.proofs.OfferSteps.{same_sample}
use Rattle.buttmitrel.specs.Code.{code_of, value_code, refusal_code}
use Rattle.buttmitrel_recorder.specs.Numbers.{numbers_of, recorder_of, start_call, numbers_after_start}

-- A drain changes one of them.
pub one_stored : (six : List ℕ) (r r' : Recorder) → length six ≡ 6 → r ≡ recorder_of six
    → r' ≡ record { cells = r.cells; number = r.number; next = r.next; holes = r.holes; stored = r'.stored; ever = r.ever } → set six 4 r'.stored ≡ numbers_of r'
one_stored [] r r' l e f = absurd (omega arith)
one_stored (a ∷ []) r r' l e f = absurd (omega arith)
one_stored (a ∷ b ∷ []) r r' l e f = absurd (omega arith)
one_stored (a ∷ b ∷ c ∷ []) r r' l e f = absurd (omega arith)
one_stored (a ∷ b ∷ c ∷ d ∷ []) r r' l e f = absurd (omega arith)
one_stored (a ∷ b ∷ c ∷ d ∷ g ∷ []) r r' l e f = absurd (omega arith)
one_stored (a ∷ b ∷ c ∷ d ∷ g ∷ h ∷ []) r r' l e f =
    ap (λ q. q.cells ∷ q.number ∷ q.next ∷ q.holes ∷ r'.stored ∷ q.ever ∷ []) (sym e) ∙ sym (ap numbers_of f)
one_stored (a ∷ b ∷ c ∷ d ∷ g ∷ h ∷ i ∷ s) r r' l e f = absurd (omega arith)

-- A start.
module _ (cells number : ℕ) (six : List ℕ) where
  abbrev pub Starts : ℕ → List ℕ → Type 0
  Starts n now = (n ≡ code_of (start_call cells number six)) × (now ≡ numbers_after_start six (start_call cells number six))

  pub start_refused : {n p q : ℕ} → refused p q ≡ start_answer cells number → n ≡ refusal_code p q → Starts n six
  start_refused e f = rw (← e) (f, refl)

  pub start_not_six : {n : ℕ} (r : Recorder) → answer r ≡ start_answer cells number → (length six ≡ 6 → ⊥) → n ≡ refusal_code 15 0 → Starts n six
  start_not_six r e l f = rw (← e, ne_eqb (length six) 6 l) (f, refl)

  pub started : (r : Recorder) {now : List ℕ} → answer r ≡ start_answer cells number → length six ≡ 6 → now ≡ numbers_of r → Starts 0 now
  started r e l f = rw (← e, eq-eqb (length six) 6 l) (refl, f)

-- A call on a running recorder: its outcome, the number that it answers, the record, and another lent list.
module _ {A : Type 0} (value : A → ℕ) (after : A → Recorder) (list : A → List ℕ) (six old : List ℕ) where
  abbrev pub Calls : Answer A → ℕ → List ℕ → List ℕ → Type 0
  Calls call n numbers now =
      (n ≡ value_code (and_then call (λ a. answer (value a))))
      × ((numbers ≡ or_kept call (λ a. numbers_of (after a)) six) × (now ≡ or_kept call list old))

  abbrev pub of_six : Answer A → Answer A
  of_six a = cond (eqb (length six) 6) a (refused 16 0)

  pub not_six : {n : ℕ} (a : Answer A) → (length six ≡ 6 → ⊥) → n ≡ refusal_code 16 0 → Calls (of_six a) n six old
  not_six a l e = rw (ne_eqb (length six) 6 l) (e, (refl, refl))

  module _ (l : length six ≡ 6) where
    pub call_refused : {n p q : ℕ} {now : List ℕ} (a b : Answer A) → a ≡ b → refused p q ≡ and_then a (λ x. answer (value x)) → n ≡ refusal_code p q → now ≡ or_kept a list old
        → Calls (of_six b) n six now
    call_refused (answer x) b e f g h = let z : ◌≡◌ {A = ℕ} 0 1 = cc in absurd (omega arith)
    call_refused {n} {p} {q} (refused p' q') b e f g h =
        let same : refusal_code p q ≡ refusal_code p' q' = ap value_code f in
        rw (← e, eq-eqb (length six) 6 l) (g ∙ same, (refl, h))

    pub call_taken : (r : Recorder) {r' : Recorder} {numbers now : List ℕ} (k : ℕ) (a b : Answer A) → a ≡ b → answer k ≡ and_then a (λ x. answer (value x)) → r' ≡ or_kept a after r → numbers ≡ numbers_of r' → now ≡ or_kept a list old
        → Calls (of_six b) k numbers now
    call_taken r k (answer x) b e f g m h =
        let same : k ≡ value x = ap value_code f in
        rw (← e, eq-eqb (length six) 6 l) (same, (m ∙ ap numbers_of g, h))
    call_taken r k (refused p q) b e f g m h = let z : ◌≡◌ {A = ℕ} 0 1 = cc in absurd (omega arith)

-- The offer of a sample whose signed readings are passed on, to the record that was read from the numbers.
pub same_offer : {r : Recorder} {i j : ℤ} (six store : List ℕ) (tick : ℕ) (volts : List ℕ) (temps : List ℤ) → r ≡ recorder_of six → SFits w16 i → SFits w16 j
    → offered r store tick (sample_of (to_z w16 (of_z w16 i)) (to_z w16 (of_z w16 j)) volts temps) ≡ offered (recorder_of six) store tick (sample_of i j volts temps)
same_offer six store tick volts temps e f g = ap₂ (λ r y. offered r store tick y) e (same_sample volts temps f g)
