-- Demand 3 of one rule, whole.
use Prim.Native.Nat.{ℕ, suc}
use native.Mathlib.Omega.{arith}
use mathlib.Core.Path.{ap}
use Rattle.rules.specs.Evaluation.{alert, status}
use Rattle.fillings.specs.Fillings.{Rule, Sound, last, Shown}
use Rattle.fillings.specs.promises.Demand3.{Judged}
use Rattle.fillings.proofs.Exact as E
use Rattle.fillings.proofs.Flags.{held_exactly, clear_exactly, unknown_exactly, first_possible_right, first_held_right}
use Rattle.fillings.proofs.Sure.{recovered_sure, counted_sure, sure_onwards_lem}

pub judged : (r : Rule) → Sound r → (trace : ℕ → Shown) (ticks : ℕ) → Judged r trace ticks
judged r ok trace ticks =
    record {
      exact = E.exact r ok trace;
      alert_held = λ k. held_exactly r ok trace k alert;
      alert_clear = λ k. clear_exactly r ok trace k alert;
      alert_unknown = λ k. unknown_exactly r ok trace k alert;
      status_held = λ k. held_exactly r ok trace k (status (last r));
      status_clear = λ k. clear_exactly r ok trace k (status (last r));
      status_unknown = λ k. unknown_exactly r ok trace k (status (last r));
      first_some = first_possible_right r ok trace ticks;
      first_all = first_held_right r ok trace ticks;
      sure_recovered = recovered_sure r ok trace;
      sure_counted = λ a t. counted_sure r ok trace a (suc t);
      sure_onwards = λ t sure f g hf hg same u h.
          let e = sure_onwards_lem r ok trace (suc t) sure f g hf hg same (suc u) (omega arith) in (e, ap alert e, ap (status (last r)) e);
    }
