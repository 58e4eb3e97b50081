-- `field::squares::wanted_window` meets its contract. Assumes nothing.
use mathlib.Core.Path.{refl, ◌∙◌}
use native.Mathlib.Omega.{arith}
use Rattle.setup.proofs.PartLaws.{part_long}
use Rattle.field.proofs.BandLaws.{wanted-whole, wanted_around, dirty_part, not-true}
use Rattle.field.proofs.squares.wanted_window.Goals as goal

pub around-requires : goal.around-requires
around-requires c = let n = c.cells-n.ensures in record { sides = c.requires.sides; marks_len = part_long 4 _ _ _ c.args.b.now c.dirty-a.ensures refl (omega (arith, n, c.requires.setup_in_bounds)) ∙ n }

pub returns-in-Some : goal.returns-in-Some
returns-in-Some c = wanted_around c.args.g (not-true _ c.if-not-g.true) _ c.in-Some.is _ _ (dirty_part _ _ _ _ _ _ _ c.cells-n.ensures c.dirty-a.ensures c.around.ensures)

pub returns-in_default : goal.returns-in_default
returns-in_default c = wanted-whole _ _ _

pub returns-else-not-g : goal.returns-else-not-g
returns-else-not-g c = wanted-whole _ _ _
