use Rattle.bounds.proofs.Numbers.{mirror_is}
use Rattle.bounds.proofs.Values.{told, mirror_told, values_are}
use mir.Facts.{to_z-of_z, to_z_pos}
use mir.Val.{SFits}
use mir.Syntax.{w16, w32}
use lib.IntN.{pos}
use mathlib.Core.Path.{ap, ◌∙◌}
use native.Mathlib.Omega.{arith}
use borrow.Author.Rules.{rules}
use Rattle.bounds.proofs.reading.values_of.Goals as goal

pub returns : goal.returns
returns c = let fc : SFits w16 c.args.r.current = search rules in
    let fw : SFits w16 c.args.r.highest_temp = search rules in
    let fb : SFits w16 c.args.r.board = search rules in
    let fl : SFits w16 c.args.r.lowest_temp = search rules in
    let current = c.from-current.ensures ∙ to_z-of_z fc in
    values_are c.args.r
    (told {w = w32} (search c.from-high.type_inv) c.from-high.ensures)
    (mirror_told (search c.from-low.type_inv) c.from-low.ensures)
    (to_z_pos w32 (omega (arith, c.requires)))
    (mirror_is (pos c.args.r.sum_of_cells) (record { sfits = omega (arith, c.requires) }))
    (told {w = w32} (search c.from-current.type_inv) current)
    (mirror_told (search c.from-current.type_inv) current)
    (told {w = w32} (search c.from-warm.type_inv) (c.from-warm.ensures ∙ to_z-of_z fw))
    (told {w = w32} (search c.from-board.type_inv) (c.from-board.ensures ∙ to_z-of_z fb))
    (mirror_told (search c.from-cold.type_inv) (c.from-cold.ensures ∙ to_z-of_z fl))
    (told {w = w32} (search c.from-apart.type_inv) (c.from-apart.ensures ∙ ap pos c.difference.ensures))
