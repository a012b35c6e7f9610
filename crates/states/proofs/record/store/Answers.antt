use mathlib.Core.Path.{ap, ◌∙◌}
use Rattle.std.proofs.Common.{◌+◌, ◌-◌, ◌*◌, arith}
use borrow.Rule.Slice.PartMut.{put_mid}
use borrow.Author.Rules.{rules}
use Rattle.states.proofs.RuleWords.{stored}
use Rattle.states.proofs.record.store.Goals as goal

pub returns : goal.returns
returns c = let a = c.args in
    ap (put_mid (5 * a.i) (5 * a.i + 5 - 5 * a.i) a.words.now) c.copy_from_slice.ensures.after
    ∙ stored a.words.now a.w (search rules) (search rules) a.i _ c.requires (omega arith)
