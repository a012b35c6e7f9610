use Rattle.rules.proofs.Rows.{row_of}
use Rattle.rules.proofs.Tops.{top_is}
use Rattle.rules.specs.declared.Row.{Row}
use mathlib.Core.Path.{◌≡◌, refl, ap, ap₂, ◌∙◌}
use mathlib.Core.List.{◌++◌}
use mathlib.Core.Bool.{Bool, true, false, not, cond}
use mir.Val.{bool_byte}
use native.Mathlib.Omega.{arith}
use Rattle.bounds.specs.Plan.{lanes_of}
use Rattle.lists.proofs.Laying.{laying_start, laying_next, laying_end}
use Rattle.bounds.proofs.Halves.{halves}
use Rattle.bounds.proofs.lanes_of.Goals as goal

at_even : (b : Bool) → bool_byte (not b) ≡ cond b 0 1
at_even true = refl
at_even false = refl

pub loop-i-init : goal.loop-i-init
loop-i-init c = let s = c.split_at_mut-tops.ensures in record { tops = laying_start 0 16 _ _ s.front_len; every = laying_start 0 16 _ _ (omega (arith, s.back_len)) }

pub loop-i-preserved : goal.loop-i-preserved
loop-i-preserved c = let h = c.loop-i-test.true in record {
  tops = laying_next 0 16 _ _ c.loop-i.invariant.tops h (top_is _);
  every = laying_next 0 16 _ _ c.loop-i.invariant.every h (c.from.ensures ∙ ap (λ (w : Row). bool_byte (not w.even)) (row_of _ _ _ c.all_rows-table.ensures h) ∙ at_even _);
}

pub returns : goal.returns
unfolding lanes_of
returns c = let h = c.loop-i-test.false in ap₂ ◌++◌ (laying_end 0 16 _ c.loop-i.invariant.tops h) (laying_end 0 16 _ c.loop-i.invariant.every h) ∙ halves _ _
