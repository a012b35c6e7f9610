-- Paper 01, 'The sixteen rules': the threshold and recovery tests, a rule's state and one step of it, alert and status, even ticks.
use Rattle.std.specs.Prelude.{ℕ, zero, suc, ◌%◌, Bool, not, cond, ◌&&◌, ◌||◌, ℤ, ltb, eqb}
use Rattle.std.specs.Int.Signed.{lt_z}
use Rattle.rules.specs.declared.Readings.{Readings}
use Rattle.rules.specs.declared.Side.{Side}
use Rattle.rules.specs.declared.Side.TheVariants.{High, Low}
use Rattle.rules.specs.declared.Row.{Row}
use Rattle.rules.specs.declared.Setting.{Setting}
use Rattle.rules.specs.Quantities.{value, qualified}

-- A number is beyond a limit on this side: above it on the high side, below it on the low side.
abbrev pub beyond : Side → ℤ → ℤ → Bool
beyond High a b = lt_z b a
beyond Low a b = lt_z a b

-- The other side.
abbrev pub opposite : Side → Side
opposite High = Low
opposite Low = High

-- An evaluation meets the threshold.
unfoldable pub trips : ℕ → Row → Setting → Readings → Bool
trips idle row s r = qualified idle row.quantity r && beyond row.side (value row.quantity r) s.threshold

-- An evaluation meets the recovery of a rule that recovers; nothing qualifies it.
unfoldable pub clears : Row → Setting → Readings → Bool
clears row s r = row.recovers && beyond (opposite row.side) (value row.quantity r) s.recovery

-- The state of a rule of time T at which its status is active; 0 for a rule that is switched off.
abbrev pub top : ℕ → ℕ
top zero = 0
top (suc t) = suc t

-- One evaluation: below the top a met threshold adds 1 and any other gives 0; at the top a met recovery gives 0, else it stays.
unfoldable pub step : ℕ → Bool → Bool → ℕ → ℕ
step m trip clear s = cond (ltb s m) (cond trip (suc s) 0) (cond clear 0 m)

-- Alert: state above 0.
abbrev pub alert : ℕ → Bool
alert s = ltb 0 s

-- Status: the top state, of a rule that is not switched off.
abbrev pub status : ℕ → ℕ → Bool
status m s = ltb 0 m && eqb s m

-- Whether a rule is evaluated at a tick: at every tick, or at even ticks only.
abbrev pub evaluated : Row → ℕ → Bool
evaluated row t = not row.even || eqb (t % 2) 0

-- How many of the ticks from a up to, but not with, k evaluate the rule.
unfoldable pub evaluations : Row → ℕ → ℕ → ℕ
evaluations row a zero = 0
evaluations row a (suc k) = cond (ltb k a) 0 (cond (evaluated row k) (suc (evaluations row a k)) (evaluations row a k))
