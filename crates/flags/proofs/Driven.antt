-- An output, rule by rule from the last to the first.
use Prim.Native.Nat.{ℕ, zero, suc, ◌-◌, ◌<◌, ◌≤◌}
use mathlib.Core.Path.{◌≡◌, refl, sym, ◌∙◌}
use mathlib.Core.Bool.{Bool, cond}
use mathlib.Core.List.{List, map}
use native.Mathlib.Omega.{arith}
use lib.ListN.{length, drop, get_or, length-map, get_or-map}
use lib.Seq.{drop-cons}
use Rattle.rules.specs.declared.Row.{Row}
use Rattle.rules.specs.Table.{rows, row_at}
use Rattle.flags.specs.declared.Flag.{Flag}
use Rattle.flags.specs.declared.Flag.TheVariants.{Clear}
use Rattle.flags.specs.declared.RuleFlags.{RuleFlags}
use Rattle.flags.specs.Flags.{with_next}
use Rattle.flags.specs.Outputs.{output_of, statuses_of}

-- The output of the rules from i on.
abbrev pub from : (Row → Bool) → List RuleFlags → ℕ → Flag
from drives fs i = output_of drives (drop i rows) (drop i (statuses_of fs))

-- What the loop has found at rule i.
pub record Driven (drives : Row → Bool) (fs : List RuleFlags) (found : Flag) (i : ℕ) : Type 0 where
  pub is : found ≡ from drives fs i

pub start : (drives : Row → Bool) (fs : List RuleFlags) → Driven drives fs Clear 16
unfolding output_of
start drives fs = record { is = refl }

one_more : (drives : Row → Bool) (fs : List RuleFlags) (f : RuleFlags) (k : ℕ) → length fs ≡ 16 → k < 16 → from drives fs k ≡ cond (drives (row_at k)) (with_next (get_or fs k f).status (from drives fs (suc k))) (from drives fs (suc k))
unfolding output_of
one_more drives fs f k n h =
    let r : k < length rows = h in
    let s : k < length (statuses_of fs) = rw length-map (omega arith) in
    rw (← get_or-map (λ x. x.status) fs k f, drop-cons rows k (row_at 16), drop-cons (statuses_of fs) k f.status)

pub next : {drives : Row → Bool} {fs : List RuleFlags} {found result : Flag} {i : ℕ} {row : Row} {driving : Bool} (f : RuleFlags) → Driven drives fs found i → 0 < i → i ≤ 16 → length fs ≡ 16 → row ≡ row_at (i - 1) → driving ≡ drives row → result ≡ cond driving (with_next (get_or fs (i - 1) f).status found) found → Driven drives fs result (i - 1)
next {i = zero} f d h w n r b e = absurd (omega arith)
next {drives} {fs} {i = suc k} f d h w n r b e =
    let p : suc k - 1 ≡ k = omega arith in
    let more = one_more drives fs f k n w in
    record { is = e ∙ rw (b, r, p, d.is) (sym more) }

pub long : (X Y : Type 0) (g : X → Y) (l : List X) (n : ℕ) → length (map g l) ≡ n → length l ≡ n
long X Y g l n e = sym (length-map l g) ∙ e
