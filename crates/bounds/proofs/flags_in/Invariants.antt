use Rattle.lists.proofs.Laying.{Laying}
use Rattle.fillings.specs.Bounds.{flags_between}
use Rattle.flags.specs.declared.Flag.TheVariants.{Unknown}
use Rattle.rules.specs.Table.{row_at}
use lib.ListN.{get_or}
use Prim.Native.Nat.{◌+◌}
use Rattle.bounds.proofs.flags_in.Given as goal

abbrev pub invariant-loop-i : goal.invariant-loop-i
invariant-loop-i l =
    Laying (record { alert = Unknown; status = Unknown }) 16 (λ j. flags_between (row_at j) (get_or l.lanes j 0) (get_or l.states j 0) (get_or l.states (16 + j) 0)) l.flags.of l.i
