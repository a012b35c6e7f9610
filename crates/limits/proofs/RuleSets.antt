-- A rule set, checked rule by rule.
use Prim.Native.Nat.{ℕ, zero, suc, ◌+◌, ◌*◌, ◌≤◌, ◌<◌}
use mathlib.Core.Path.{◌≡◌, refl, ap, sym, ◌∙◌}
use mathlib.Core.Bool.{Bool, true, false, cond, ◌&&◌, ◌||◌}
use mathlib.Core.List.{List, [], ◌∷◌, map, ◌++◌, append-nil}
use native.Mathlib.Numerals.{add-one}
use native.Mathlib.Omega.{arith}
use lib.IntN.{ℤ}
use lib.Dec.{eqb, leb}
use lib.ListN.{length, length-map, get_or, take, drop, set, length-set, drop_of_length-le}
use lib.Seq.{take-suc-set, take_all, append_snoc}
use mir.Syntax.{w32}
use mir.Val.{to_z, of_z, SFits}
use mir.Facts.{to_z-of_z}
use borrow.Author.Tests.{leb-true, leb-false, le-leb, ne_eqb}
use Rattle.std.specs.Prelude.{Option, Some, None}
use Rattle.lists.specs.Lists.{tabulate}
use Rattle.lists.proofs.Bools.{length_tabulate}
use Rattle.refusals.specs.Refusals.{Answer, answer, refused}
use Rattle.refusals.proofs.Answers.{where_true}
use Rattle.bytes_le.specs.Numbers.{u16_at, i32_at}
use Rattle.rules.specs.declared.Side.{Side}
use Rattle.rules.specs.declared.Side.TheVariants.{High, Low}
use Rattle.rules.specs.declared.Row.{Row}
use Rattle.rules.specs.declared.Setting.{Setting}
use Rattle.rules.specs.Table.{row_at}
use Rattle.rules.specs.Quantities.{least, most}
use Rattle.limits.specs.Limits.{within, limits, setting_at, limits_answer, with_settings, off}

-- The limits of threshold and recovery do not ask the time.
within_any : (recovers : Bool) (side : Side) (lo hi t r : ℤ) (k : ℕ)
    → within recovers side lo hi (record { threshold = t; recovery = r; time = 0 })
    ≡ within recovers side lo hi (record { threshold = t; recovery = r; time = k })
unfolding within
within_any true High lo hi t r k = refl
within_any true Low lo hi t r k = refl
within_any false High lo hi t r k = refl
within_any false Low lo hi t r k = refl

-- The test of an enabled rule's numbers, as the code holds them.
pub limits_are : (n : ℕ) (row : Row) {k : ℕ} {lo hi t r : ℤ} {b : Bool} → (k ≡ 0 → ⊥) → k ≤ 255 → SFits w32 lo → SFits w32 hi → SFits w32 t → SFits w32 r
    → lo ≡ least row.quantity → hi ≡ most row.quantity n
    → b ≡ within row.recovers row.side (to_z w32 (of_z w32 lo)) (to_z w32 (of_z w32 hi)) (record { threshold = to_z w32 (of_z w32 t); recovery = to_z w32 (of_z w32 r); time = 0 })
    → b ≡ limits n row (record { threshold = t; recovery = r; time = k })
unfolding limits
limits_are n row {k} {t = t} {r} some low f g ft fr el eh e =
    rw (ne_eqb k 0 some, le-leb k 255 low, ← within_any row.recovers row.side (least row.quantity) (most row.quantity n) t r k, ← el, ← eh)
    (rw (to_z-of_z {w = w32} f, to_z-of_z {w = w32} g, to_z-of_z {w = w32} ft, to_z-of_z {w = w32} fr) at e)

-- The test of a setting that the code holds.
pub held_limits : (n : ℕ) (row : Row) (s : Setting) {b : Bool} → SFits w32 s.threshold → SFits w32 s.recovery
    → b ≡ limits n row (record { threshold = to_z w32 (of_z w32 s.threshold); recovery = to_z w32 (of_z w32 s.recovery); time = s.time }) → b ≡ limits n row s
held_limits n row s ft fr e = rw (to_z-of_z {w = w32} ft, to_z-of_z {w = w32} fr) at e

small : (k : ℕ) (b : Bool) → (eqb k 0 || leb k 255 && b) ≡ true → k ≤ 255
small k b e = go (leb k 255) refl
  where
    go : (t : Bool) → leb k 255 ≡ t → k ≤ 255
    go true h = leb-true k 255 h
    go false h =
        let more = leb-false k 255 h in
        let some : eqb k 0 ≡ false = ne_eqb k 0 (λ z. omega arith) in
        let q : false ≡ true = rw (some, h) at e in
        let z : ◌≡◌ {A = ℕ} 0 1 = cc in
        absurd (omega arith)

pub time_small : (n : ℕ) (row : Row) (s : Setting) → limits n row s ≡ true → s.time ≤ 255
unfolding limits
time_small n row s e = small s.time _ e

-- The check of a rule: its setting, or that it is outside its limits.
abbrev pub checked : ℕ → Row → Setting → Option Setting
checked n row s = cond (limits n row s) (Some s) None

pub checked_is : (n : ℕ) {row row' : Row} {s s' : Setting} {b v : Bool} → b ≡ limits n row s → b ≡ v → row ≡ row' → s ≡ s'
    → cond v (Some s) None ≡ checked n row' s'
checked_is n e ev er es = rw (← er, ← es, ← e, ev)

pub setting_is : (bytes : List ℕ) (i : ℕ) {t r : ℤ} {k : ℕ} → SFits w32 t → SFits w32 r
    → t ≡ i32_at bytes (10 * i) → r ≡ i32_at bytes (10 * i + 4) → k ≡ u16_at bytes (10 * i + 8)
    → record { threshold = to_z w32 (of_z w32 t); recovery = to_z w32 (of_z w32 r); time = k } ≡ setting_at bytes i
setting_is bytes i f g et er ek = rw (to_z-of_z f, to_z-of_z g, et, er, ek)

accepted : (n : ℕ) (row : Row) (s : Setting) {r : Option Setting} {t : Setting} → r ≡ checked n row s → r ≡ Some t → (limits n row s ≡ true) × (t ≡ s)
accepted n row s {r} {t} e q = go (limits n row s) refl
  where
    go : (b : Bool) → limits n row s ≡ b → (limits n row s ≡ true) × (t ≡ s)
    go true b = let f = rw b at e in (b, cc)
    go false b = let f = rw b at e in let z : ◌≡◌ {A = ℕ} 0 1 = cc in absurd (omega arith)

outside : (n : ℕ) (row : Row) (s : Setting) {r : Option Setting} → r ≡ checked n row s → r ≡ None → limits n row s ≡ false
outside n row s {r} e q = go (limits n row s) refl
  where
    go : (b : Bool) → limits n row s ≡ b → limits n row s ≡ false
    go true b = let f = rw b at e in let z : ◌≡◌ {A = ℕ} 0 1 = cc in absurd (omega arith)
    go false b = b

-- The list from i on, one element further, and past its end.
tabulate_next : {A : Type 0} (m i : ℕ) (f : ℕ → A) → i < m → drop i (tabulate m f) ≡ f i ∷ drop (suc i) (tabulate m f)
tabulate_next zero i f h = absurd (omega arith)
tabulate_next (suc m) zero f h = refl
tabulate_next (suc m) (suc i) f h = tabulate_next m i (λ j. f (suc j)) (omega arith)

tabulate_past : {A : Type 0} (m i : ℕ) (f : ℕ → A) → m ≤ i → drop i (tabulate m f) ≡ []
tabulate_past m i f h = drop_of_length-le (tabulate m f) {i = i} (omega (arith, length_tabulate m f))

-- What the check of the settings f of the first m rows answers.
abbrev pub answered : ℕ → ℕ → (ℕ → Setting) → Answer (Unit {0})
answered n m f = limits_answer n (tabulate m row_at) (tabulate m f) 0

-- The first i of m settings are within their limits, and the answer is what the others answer.
pub record Passed (n m : ℕ) (f : ℕ → Setting) (i : ℕ) : Type 0 where
  pub low : i ≤ m
  pub left : answered n m f ≡ limits_answer n (drop i (tabulate m row_at)) (drop i (tabulate m f)) i

module _ {n m : ℕ} {f : ℕ → Setting} where
  pub passed_start : Passed n m f 0
  passed_start = record { low = omega arith; left = refl }

  turn : {i : ℕ} → Passed n m f i → i < m
      → answered n m f
      ≡ cond (limits n (row_at i) (f i)) (limits_answer n (drop (suc i) (tabulate m row_at)) (drop (suc i) (tabulate m f)) (suc i)) (refused 7 i)
  unfolding limits_answer
  turn {i} c h = rw (tabulate_next m i row_at h, tabulate_next m i f h) at c.left

  pub passed_next : {i : ℕ} → Passed n m f i → i < m → limits n (row_at i) (f i) ≡ true → Passed n m f (i + 1)
  passed_next c h held = record { low = omega arith; left = rw add-one (rw held at (turn c h)) }

  pub passed_stop : {i : ℕ} → Passed n m f i → i < m → limits n (row_at i) (f i) ≡ false → answered n m f ≡ refused 7 i
  passed_stop c h e = rw e at (turn c h)

  pub passed_end : {i : ℕ} → Passed n m f i → m ≤ i → answered n m f ≡ answer tt
  unfolding limits_answer
  passed_end {i} c h = rw (tabulate_past m i row_at h) at c.left

-- They are kept as well.
pub record Checking (n m : ℕ) (f : ℕ → Setting) (of : List Setting) (i : ℕ) : Type 0 where
  pub passed : Passed n m f i
  pub long : length of ≡ m
  pub kept : take i of ++ drop i (tabulate m f) ≡ tabulate m f

pub start : {n m : ℕ} {f : ℕ → Setting} {of : List Setting} → length of ≡ m → Checking n m f of 0
start h = record { passed = passed_start; long = h; kept = refl }

pub next : {n m : ℕ} {f : ℕ → Setting} {of : List Setting} {i : ℕ} {r : Option Setting} {s : Setting} → Checking n m f of i → i < m
    → r ≡ checked n (row_at i) (f i) → r ≡ Some s → Checking n m f (set of i s) (i + 1)
next {n} {m} {f} {of} {i} {s = s} c h e q =
    let (held, same) = accepted n (row_at i) (f i) e q in
    let room : i < length of = omega (arith, c.long) in
    record {
      passed = passed_next c.passed h held;
      long = length-set of i s ∙ c.long;
      kept = rw (add-one, take-suc-set of i s room, same, append_snoc) (rw (tabulate_next m i f h) at c.kept);
    }

pub stop : {n m : ℕ} {f : ℕ → Setting} {of : List Setting} {i : ℕ} {r : Option Setting} → Checking n m f of i → i < m
    → r ≡ checked n (row_at i) (f i) → r ≡ None → answered n m f ≡ refused 7 i
stop {n} {f = f} {i = i} c h e q = passed_stop c.passed h (outside n (row_at i) (f i) e q)

pub end : {n m : ℕ} {f : ℕ → Setting} {of : List Setting} {i : ℕ} → Checking n m f of i → m ≤ i
    → answer of ≡ with_settings (answered n m f) (tabulate m f)
end {m = m} {f} {of} {i} c h =
    let e = passed_end c.passed h in
    let k = rw (tabulate_past m i f h, append-nil, take_all i of (omega (arith, c.long))) at c.kept in
    rw (e, k)

-- The length of an array in a struct, as it is handed.
pub long : (X Y : Type 0) (g : X → Y) (l : List X) (n : ℕ) → length (map g l) ≡ n → length l ≡ n
long X Y g l n e = sym (length-map l g) ∙ e

-- The settings of a list by their numbers.
abbrev pub numbered : List Setting → ℕ → Setting
numbered ss i = get_or ss i off

listed : (ss : List Setting) → tabulate (length ss) (numbered ss) ≡ ss
listed [] = refl
listed (s ∷ ss) = ap (λ (rest : List Setting). s ∷ rest) (listed ss)

-- The check of a list of m settings is that of its settings by their numbers.
pub listed_answer : (n m : ℕ) (ss : List Setting) → length ss ≡ m → answered n m (numbered ss) ≡ limits_answer n (tabulate m row_at) ss 0
listed_answer n m ss l =
    ap (λ (xs : List Setting). limits_answer n (tabulate m row_at) xs 0) (ap (λ (k : ℕ). tabulate k (numbered ss)) (sym l) ∙ listed ss)

-- Each rule of settings that pass is within its limits.
pub rule_within : (n : ℕ) (rs : List Row) (ss : List Setting) (i : ℕ) → limits_answer n rs ss i ≡ answer tt
    → (j : ℕ) (r : Row) (s : Setting) → j < length rs → j < length ss → limits n (get_or rs j r) (get_or ss j s) ≡ true
unfolding limits_answer
rule_within n [] ss i h j r s a b = absurd (omega arith)
rule_within n (r' ∷ rs) [] i h j r s a b = absurd (omega arith)
rule_within n (r' ∷ rs) (s' ∷ ss) i h zero r s a b = (where_true (limits n r' s') 7 i _ h).0
rule_within n (r' ∷ rs) (s' ∷ ss) i h (suc j) r s a b = rule_within n rs ss (suc i) (where_true (limits n r' s') 7 i _ h).1 j r s (omega arith) (omega arith)
