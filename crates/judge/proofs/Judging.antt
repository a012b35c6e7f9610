-- The loop over the replies.
use Prim.Native.Nat.{ℕ, suc, ◌+◌, ◌-◌, ◌*◌, ◌/◌, ◌≤◌, ◌<◌}
use mathlib.Core.Path.{◌≡◌, refl, sym, ap, ap₂, subst, ◌∙◌}
use mathlib.Core.Bool.{◌||◌}
use mathlib.Core.List.{List, [], ◌∷◌, ◌++◌, map, append-nil}
use native.Mathlib.Omega.{arith}
use native.Mathlib.Numerals.{add-one}
use lib.IntN.{ℤ}
use lib.Dec.{ltb, leb}
use lib.ListN.{length, take, drop, set, length-set, length-drop}
use lib.Seq.{take-suc-set, length-take-le, take_all, append_snoc}
use borrow.Author.Tests.{ltb-false, leb-false}
use Rattle.std.proofs.lemmas.List.{take-append-drop, drop-take, drop-drop}
use Rattle.lists.proofs.Bools.{both_false}
use Rattle.refusals.specs.Refusals.{answer}
use Rattle.bytes_le.specs.Numbers.{u32_at, spaced}
use Rattle.bytes_le.proofs.Spaced.{spaced_next}
use Rattle.bytes_le.proofs.ByteLists.{u32_behind, u32_first}
use Rattle.trace.specs.Records.{Reply, reply_at, replies_from, replies_in}
use Rattle.trace.specs.Coverage.{replies_answer}
use Rattle.refusals.proofs.Answers.{unless}
use Rattle.ticks.proofs.Places.{place_low}
use Rattle.bounds.specs.Steps.{flags_of_states}
use Rattle.verdicts.specs.declared.Tick.{Tick}
use Rattle.verdicts.specs.declared.Alarms.{Alarms}
use Rattle.verdicts.specs.Verdicts.{verdict_of}
use Rattle.demands.specs.Verdicts.{alarms_at, verdict_on}
use Rattle.judge.specs.declared.advance.Stop.{Stop}
use Rattle.judge.specs.declared.advance.Tracks.{Tracks}
use Rattle.walk.specs.inner.Places.{shows}
use Rattle.judge.specs.declared.advance.Frame.{Frame}
use Rattle.judge.specs.inner.Walk.{config_in, Ready, Planned, Known, At, Arrived, alarms_of}
use Rattle.judge.proofs.Points.{alarms_known}

-- The replies below number j are judged, and the walk has not passed the next one; `low` is the tick of the last one.
pub record Judged (f : Frame) (holes samples replies : List ℕ) (tracks : Tracks) (verdicts : List ℕ) (x : Stop) (j : ℕ) : Type 0 where
  pub there : At f holes samples x tracks
  pub count : length verdicts ≡ length replies / 10
  pub within : j ≤ length verdicts
  pub low : ℕ
  pub passed : x.cursor.tick ≤ low + 1
  pub left : replies_answer f.ticks (replies_from replies (length replies / 10 - j) (j * 10)) j low ≡ answer tt
  pub judged : map (verdict_on (config_in f) (shows f.cells samples)) (replies_in replies) ≡ take j verdicts ++ map (verdict_on (config_in f) (shows f.cells samples)) (replies_from replies (length replies / 10 - j) (j * 10))

pub judging_start : {f : Frame} {holes samples replies : List ℕ} {tracks : Tracks} {verdicts : List ℕ} {x : Stop} → At f holes samples x tracks
    → x.cursor.tick ≤ 1 → replies_answer f.ticks (replies_in replies) 0 0 ≡ answer tt → length verdicts ≡ length replies / 10
    → Judged f holes samples replies tracks verdicts x 0
judging_start {f} {samples = samples} {replies} g l a n =
    let e : length replies / 10 ≡ length replies / 10 - 0 = omega arith in
    record {
      there = g;
      count = n;
      within = omega arith;
      low = 0;
      passed = omega arith;
      left = ap (λ (k : ℕ). replies_answer f.ticks (replies_from replies k 0) 0 0) (sym e) ∙ a;
      judged = ap (λ (k : ℕ). map (verdict_on (config_in f) (shows f.cells samples)) (replies_from replies k 0)) e;
    }

-- The verdict from where the walk stands after the reply's tick.
verdict_here : {f : Frame} {tests : List ℤ} {lanes holes samples : List ℕ} {tracks : Tracks} {x : Stop} {tick : ℕ} (bytes : List ℕ) → Ready f → Planned f tests lanes → At f holes samples x tracks
    → x.cursor.tick ≡ suc tick → verdict_of x.shown (alarms_of (flags_of_states lanes tracks.states)) bytes ≡ verdict_on (config_in f) (shows f.cells samples) (record { tick = tick; bytes = bytes })
verdict_here {f} {samples = samples} bytes ready planned g e =
    ap₂ (λ (t : Tick) (a : Alarms). verdict_of t a bytes) (g.shown _ e)
    (alarms_known ready planned g refl ∙ ap (alarms_at (config_in f) (shows f.cells samples)) e)

-- The tick of a reply, from its own bytes.
reply_tick : (s : List ℕ) (at : ℕ) → at + 10 ≤ length s → u32_at (take 10 (drop at s)) 0 ≡ u32_at s at
reply_tick s at h =
    let l : 10 ≤ length (drop at s) = omega (arith, length-drop at s) in
    let z : at ≡ at + 0 = omega arith in
    sym
    (ap (u32_at s) z
    ∙ u32_behind s (drop at s) at 0 refl
    ∙ ap (λ (x : List ℕ). u32_at x 0) (sym (take-append-drop 10 (drop at s)))
    ∙ u32_first (take 10 (drop at s)) (drop 10 (drop at s)) 0 (omega (arith, length-take-le 10 (drop at s) l)))

module _ {f : Frame} {holes samples replies : List ℕ} {tracks : Tracks} {verdicts : List ℕ} {x : Stop} {j : ℕ} (g : Judged f holes samples replies tracks verdicts x j) where
  abbrev n : ℕ
  n = length replies / 10

  abbrev verdict : Reply → ℕ
  verdict = verdict_on (config_in f) (shows f.cells samples)

  abbrev reply : Reply
  reply = reply_at replies (j * 10)

  abbrev rest : List Reply
  rest = replies_from replies (length replies / 10 - j - 1) (j * 10 + 10)

  some : j < length verdicts → 0 < length replies / 10 - j
  some h = omega (arith, g.count)

  -- the next reply comes after the last one and is covered
  pub record Next : Type 0 where
    pub after : g.low ≤ u32_at replies (j * 10)
    pub covered : u32_at replies (j * 10) < f.ticks
    pub later : replies_answer f.ticks rest (suc j) (u32_at replies (j * 10)) ≡ answer tt

  pub next_reply : j < length verdicts → Next
  unfolding replies_answer
  next_reply h =
      let e = spaced_next (reply_at replies) 10 (length replies / 10 - j) (j * 10) (some h) in
      let a : replies_answer f.ticks (reply ∷ rest) j g.low ≡ answer tt = ap (λ (rs : List Reply). replies_answer f.ticks rs j g.low) (sym e) ∙ g.left in
      let u = unless (ltb (u32_at replies (j * 10)) g.low || leb f.ticks (u32_at replies (j * 10))) 10 j _ a in
      let o = both_false (ltb (u32_at replies (j * 10)) g.low) (leb f.ticks (u32_at replies (j * 10))) u.0 in
      record { after = ltb-false _ _ o.0; covered = leb-false _ _ o.1; later = u.1 }

  pub in_replies : j < length verdicts → j * 10 + 10 ≤ length replies
  in_replies h = omega (arith, g.count)

  -- the bytes of reply j
  abbrev here : List ℕ
  here = take (j * 10 + 10 - j * 10) (drop (j * 10) replies)

  pub tick_here : j < length verdicts → u32_at here 0 ≡ u32_at replies (j * 10)
  tick_here h = let l = in_replies h in let ten : j * 10 + 10 - j * 10 ≡ 10 = omega arith in rw ten (reply_tick replies (j * 10) l)

  -- and those after its tick
  abbrev after_tick : List ℕ
  after_tick = take (length here - 4) (drop 4 here)

  bytes_here : after_tick ≡ reply.bytes
  bytes_here =
      let ten : j * 10 + 10 - j * 10 ≡ 4 + 6 = omega arith in
      take_all _ _ (omega (arith, length-drop 4 here))
      ∙ ap (λ (k : ℕ). drop 4 (take k (drop (j * 10) replies))) ten
      ∙ drop-take 4 6 (drop (j * 10) replies)
      ∙ ap (take 6) (drop-drop 4 (j * 10) replies)

  pub judging_next : {tests : List ℤ} {lanes : List ℕ} → Ready f → Planned f tests lanes → j < length verdicts → (to v : ℕ) {tracks' : Tracks} {x' : Stop} → to ≡ u32_at here 0 + 1
      → Arrived f holes samples x' to tracks'
      → v ≡ verdict_of x'.shown (alarms_of (flags_of_states lanes tracks'.states)) after_tick
      → Judged f holes samples replies tracks' (set verdicts j v) x' (j + 1)
  judging_next {lanes = lanes} ready planned h to v {tracks'} {x' = x'} t r e =
      let tick : x'.cursor.tick ≡ suc (u32_at replies (j * 10)) = r.at ∙ t ∙ ap (λ (k : ℕ). k + 1) (tick_here h) ∙ add-one _ in
      let is : v ≡ verdict reply =
      e ∙ ap (verdict_of x'.shown (alarms_of (flags_of_states lanes tracks'.states))) bytes_here ∙ verdict_here _ ready planned r.there tick in
      let split = spaced_next (reply_at replies) 10 (length replies / 10 - j) (j * 10) (some h) in
      let d : length replies / 10 - j - 1 ≡ length replies / 10 - (j + 1) = omega arith in
      let a : j * 10 + 10 ≡ (j + 1) * 10 = omega arith in
      let moved : rest ≡ replies_from replies (length replies / 10 - (j + 1)) ((j + 1) * 10) = ap₂ (replies_from replies) d a in
      record {
        there = r.there;
        count = length-set verdicts j v ∙ g.count;
        within = omega (arith, length-set verdicts j v);
        low = u32_at replies (j * 10);
        passed = omega (arith, tick);
        left = ap₂ (λ (rs : List Reply) (i : ℕ). replies_answer f.ticks rs i (u32_at replies (j * 10))) (sym moved) (add-one j) ∙ (next_reply h).later;
        judged =
            g.judged
            ∙ ap (λ (rs : List Reply). take j verdicts ++ map verdict rs) split
            ∙ sym (append_snoc (take j verdicts) (verdict reply) (map verdict rest))
            ∙ ap (λ (y : ℕ). take j verdicts ++ (y ∷ []) ++ map verdict rest) (sym is)
            ∙ ap (λ (l : List ℕ). l ++ map verdict rest) (sym (take-suc-set verdicts j v h) ∙ ap (λ (i : ℕ). take i (set verdicts j v)) (sym (add-one j)))
            ∙ ap (λ (rs : List Reply). take (j + 1) (set verdicts j v) ++ map verdict rs) moved;
      }

  -- the walk has not passed the last tick
  pub not_past : x.cursor.tick ≤ f.ticks
  not_past = place_low _ _ _ g.there.stands.place

  pub judging_end : length verdicts ≤ j → verdicts ≡ map verdict (replies_in replies)
  unfolding spaced
  judging_end h =
      let e : length replies / 10 - j ≡ 0 = omega (arith, g.count) in
      sym
      (g.judged
      ∙ ap (λ (k : ℕ). take j verdicts ++ map verdict (replies_from replies k (j * 10))) e
      ∙ append-nil (take j verdicts)
      ∙ take_all j verdicts h)

pub known_there : {f : Frame} {holes samples : List ℕ} {x : Stop} {to : ℕ} {tracks : Tracks} → Arrived f holes samples x to tracks → Known (config_in f) samples to tracks
known_there {f} {samples = samples} {tracks = tracks} r = subst (λ (k : ℕ). Known (config_in f) samples k tracks) r.at r.there.known
