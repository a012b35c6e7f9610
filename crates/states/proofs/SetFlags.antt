-- Alert and status, read off the words of a set.
use Prim.Native.Nat.{ℕ, zero, suc, ◌+◌, ◌*◌, ◌/◌, ◌%◌, ◌≤◌, ◌<◌}
use mathlib.Core.Path.{◌≡◌, ap, ap₂, sym, ◌∙◌, subst}
use mathlib.Core.List.{List}
use mathlib.Core.Bool.{Bool, true, false, not, ◌&&◌}
use mathlib.Core.Logic.{⊎_elim}
use native.Mathlib.Omega.{arith}
use native.Mathlib.Nat.{eq-or-lt_of_le}
use native.Mathlib.Numerals.{add-one}
use lib.Dec.{T, ltb, eqb, eqb→eq, eqb_refl, ltb→lt, lt→ltb}
use lib.ListN.{get_or, length, set}
use lib.Seq.{get_or-set_same, get_or-set_other}
use borrow.Author.Tests.{lt-ltb, eq-eqb, ne_eqb}
use Rattle.lists.specs.Lists.{some_below}
use Rattle.lists.proofs.Bools.{and_left, and_right, both, refuted, bool_ext, equal?, some_intro, some_elim}
use Rattle.rules.specs.Evaluation.{alert, status}
use Rattle.flags.specs.Flags.{flag_of}
use Rattle.fillings.specs.PossibleStates.{has}
use Rattle.fillings.specs.Flags.{flag}
use Rattle.states.specs.Records.{bit, at, states_of}
use Rattle.states.specs.inner.Words.{Below, Alerting}
use Rattle.states.proofs.Bits.{bit_double}
use Rattle.states.proofs.Packing.{half, parity}
use Rattle.states.proofs.Moving.{has_states, some_states}

-- A flag is that of two Booleans that tell whether some state has the property, and whether some has not.
flag_by : (m : ℕ) (test : ℕ → Bool) (p : List Bool) (some other : Bool)
    → some ≡ some_below (suc m) (λ s. has p s && test s) → other ≡ some_below (suc m) (λ s. has p s && not (test s)) → flag_of some other ≡ flag m test p
unfolding flag
flag_by m test p some other a b = ap₂ flag_of a b

-- Some number below n passes a test exactly if some number below k passes another.
some_same : (n k : ℕ) (f g : ℕ → Bool) → ((i : ℕ) → i < n → T (f i) → (j : ℕ) × (j < k) × T (g j)) → ((j : ℕ) → j < k → T (g j) → (i : ℕ) × (i < n) × T (f i))
    → some_below n f ≡ some_below k g
some_same n k f g to fro =
    bool_ext _ _
    (λ t. let (i, h, u) = some_elim n f t in let (j, l, v) = to i h u in some_intro k g j l v)
    (λ t. let (j, h, u) = some_elim k g t in let (i, l, v) = fro j h u in some_intro n f i l v)

-- Status is active in some state of a set exactly if the top state is in it.
top_active : (m : ℕ) (p : List Bool) → 0 < m → has p m ≡ some_below (suc m) (λ s. has p s && status m s)
top_active m p pos =
    bool_ext _ _
    (λ t. some_intro (suc m) (λ s. has p s && status m s) m (omega arith)
    (both (has p m) (status m m) t (both (ltb 0 m) (eqb m m) (lt→ltb 0 m pos) (eqb_refl m))))
    (λ t.
    let (s, h, u) = some_elim (suc m) (λ s. has p s && status m s) t in
    let e : s ≡ m = eqb→eq s m (and_right (ltb 0 m) (eqb s m) (and_right (has p s) (status m s) u)) in
    subst (λ (x : ℕ). T (has p x)) e (and_left (has p s) (status m s) u))

module _ (w : List ℕ) (m : ℕ) (fits : m ≤ 256) where
  abbrev P : List Bool
  P = states_of w m

  -- the top state is possible
  active : 0 < m → at w m ≡ some_below (suc m) (λ s. has P s && status m s)
  active pos = sym (has_states w m m (omega arith)) ∙ top_active m P pos

  inactive : 0 < m → some_below m (has P) ≡ some_below (suc m) (λ s. has P s && not (status m s))
  inactive pos =
      some_same m (suc m) (has P) (λ s. has P s && not (status m s))
      (λ s h t. (s, omega arith, both (has P s) (not (status m s)) t (subst (λ (b : Bool). T (not b)) (sym (away s (λ e. omega arith))) tt)))
      (λ s h t.
      let n : T (not (status m s)) = and_right (has P s) (not (status m s)) t in
      (s, ⊎_elim (λ e. absurd (subst (λ (b : Bool). T (not b)) (here s e) n)) (λ g. g) (eq-or-lt_of_le (low s h)), and_left (has P s) (not (status m s)) t))
    where
      low : (s : ℕ) → s < suc m → s ≤ m
      low s h = omega arith

      here : (s : ℕ) → s ≡ m → status m s ≡ true
      here s e = ap₂ ◌&&◌ (lt-ltb 0 m pos) (eq-eqb s m e)

      away : (s : ℕ) → (s ≡ m → ⊥) → status m s ≡ false
      away s n = ap₂ ◌&&◌ (lt-ltb 0 m pos) (ne_eqb s m n)

  pub status_right : (low : List ℕ) (held some : Bool) → 0 < m → Below w m low → held ≡ at w m → some ≡ some_below 320 (at low)
      → flag_of held some ≡ flag m (status m) P
  status_right low held some pos lo h e =
      flag_by m (status m) P held some (h ∙ active pos) (e ∙ some_states w low m (omega arith) lo ∙ inactive pos)

  -- a state above 0 is possible
  alerted : (low high : List ℕ) → Below w (m + 1) low → Alerting low high → some_below 320 (at high) ≡ some_below (suc m) (λ s. has P s && alert s)
  alerted low high lo al =
      some_same 320 (suc m) (at high) (λ s. has P s && alert s) to fro
    where
      to : (i : ℕ) → i < 320 → T (at high i) → (j : ℕ) × (j < suc m) × T (has P j && alert j)
      to zero h t = absurd (subst T al.first t)
      to (suc i) h t =
          let e : i + 1 ≡ suc i = add-one i in
          let a : T (at low (i + 1)) = subst T (ap (at high) (sym e) ∙ al.next i (omega arith)) t in
          let u : T (ltb (i + 1) (m + 1) && at w (i + 1)) = subst T (lo.bits (i + 1) (omega arith)) a in
          let l : i + 1 < m + 1 = ltb→lt (i + 1) (m + 1) (and_left (ltb (i + 1) (m + 1)) (at w (i + 1)) u) in
          let v : T (at w (suc i)) = subst (λ (x : ℕ). T (at w x)) e (and_right (ltb (i + 1) (m + 1)) (at w (i + 1)) u) in
          (suc i, omega arith, both (has P (suc i)) (alert (suc i)) (subst T (sym (has_states w m (suc i) (omega arith))) v) (lt→ltb 0 (suc i) (omega arith)))

      fro : (j : ℕ) → j < suc m → T (has P j && alert j) → (i : ℕ) × (i < 320) × T (at high i)
      fro zero h t = absurd (and_right (has P 0) (alert 0) t)
      fro (suc j) h t =
          let e : j + 1 ≡ suc j = add-one j in
          let v : T (at w (suc j)) = subst T (has_states w m (suc j) (omega arith)) (and_left (has P (suc j)) (alert (suc j)) t) in
          let u : T (at w (j + 1)) = subst (λ (x : ℕ). T (at w x)) (sym e) v in
          let b : T (ltb (j + 1) (m + 1) && at w (j + 1)) = both (ltb (j + 1) (m + 1)) (at w (j + 1)) (lt→ltb (j + 1) (m + 1) (omega arith)) u in
          let a : T (at low (j + 1)) = subst T (sym (lo.bits (j + 1) (omega arith))) b in
          (suc j, omega arith, subst T (sym (ap (at high) (sym e) ∙ al.next j (omega arith))) a)

  quiet : at w 0 ≡ some_below (suc m) (λ s. has P s && not (alert s))
  quiet =
      bool_ext _ _
      (λ t. some_intro (suc m) (λ s. has P s && not (alert s)) 0 (omega arith) (both (has P 0) (not (alert 0)) (subst T (sym (has_states w m 0 (omega arith))) t) tt))
      (λ t. found (some_elim (suc m) (λ s. has P s && not (alert s)) t))
    where
      found : ((s : ℕ) × (s < suc m) × T (has P s && not (alert s))) → T (at w 0)
      found (zero, h, u) = subst T (has_states w m 0 (omega arith)) (and_left (has P 0) (not (alert 0)) u)
      found (suc s, h, u) =
          absurd (subst (λ (b : Bool). T (not b)) (lt-ltb 0 (suc s) (omega arith)) (and_right (has P (suc s)) (not (alert (suc s))) u))

  pub alert_right : (low high : List ℕ) (some start : Bool) → Below w (m + 1) low → Alerting low high → some ≡ some_below 320 (at high) → start ≡ at w 0
      → flag_of some start ≡ flag m alert P
  alert_right low high some start lo al e h = flag_by m alert P some start (e ∙ alerted low high lo al) (h ∙ quiet)

-- Of a rule that is switched off status is never held.
pub status_off : (w : List ℕ) (start : Bool) → start ≡ at w 0 → flag_of false start ≡ flag 0 (status 0) (states_of w 0)
status_off w start e =
    flag_by 0 (status 0) (states_of w 0) false start
    (sym (refuted (some_below 1 (λ s. has (states_of w 0) s && status 0 s)) (λ t.
    let (s, h, u) = some_elim 1 (λ s. has (states_of w 0) s && status 0 s) t in and_right (has (states_of w 0) s) (status 0 s) u)))
    (e ∙ quiet w 0 (omega arith))

-- The lowest word halved and doubled has lost bit 0.
pub alerting_set : (w : List ℕ) → 0 < length w → Alerting w (set w 0 (get_or w 0 0 / 2 * 2))
unfolding at
alerting_set w l = record {
  first = ap (λ (x : ℕ). bit x 0) (get_or-set_same w 0 (get_or w 0 0 / 2 * 2) 0 l) ∙ even (get_or w 0 0 / 2);
  next = λ p h. ⊎_elim (lowest p) (other p) (equal? ((p + 1) / 64) 0);
}
  where
    even : (n : ℕ) → bit (n * 2) 0 ≡ false
    even n = let z : n * 2 % 2 ≡ 0 = omega arith in parity (n * 2) ∙ ap (λ (x : ℕ). eqb x 1) z

    lowest : (p : ℕ) → (p + 1) / 64 ≡ 0 → bit (get_or (set w 0 (get_or w 0 0 / 2 * 2)) ((p + 1) / 64) 0) ((p + 1) % 64) ≡ bit (get_or w ((p + 1) / 64) 0) ((p + 1) % 64)
    lowest p e =
        let x : ℕ = get_or w 0 0 in
        let m : (p + 1) % 64 ≡ p + 1 = omega arith in
        let z : x / 2 * 2 ≡ x / 2 * 2 + 0 = omega arith in
        ap₂ (λ (j r : ℕ). bit (get_or (set w 0 (x / 2 * 2)) j 0) r) e m
        ∙ ap (λ (y : ℕ). bit y (p + 1)) (get_or-set_same w 0 (x / 2 * 2) 0 l ∙ z)
        ∙ bit_double (x / 2) 0 p (omega arith)
        ∙ half x p
        ∙ ap (bit x) (sym (add-one p))
        ∙ sym (ap₂ (λ (j r : ℕ). bit (get_or w j 0) r) e m)

    other : (p : ℕ) → ((p + 1) / 64 ≡ 0 → ⊥) → bit (get_or (set w 0 (get_or w 0 0 / 2 * 2)) ((p + 1) / 64) 0) ((p + 1) % 64) ≡ bit (get_or w ((p + 1) / 64) 0) ((p + 1) % 64)
    other p n = ap (λ (x : ℕ). bit x ((p + 1) % 64)) (get_or-set_other w 0 ((p + 1) / 64) (get_or w 0 0 / 2 * 2) 0 n)
