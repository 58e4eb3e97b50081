-- `contours::square::edges_of` meets its contract. Assumes nothing.
use Rattle.std.proofs.Common.{arith}
use Rattle.contours.proofs.SquareLaws.{small-number, edges_are}
use Rattle.contours.proofs.square.edges_of.Goals as goal

pub across-requires : goal.across-requires
across-requires c = small-number _ _ _ _ c.requires.sides (omega (arith, c.requires.in_grid.column)) (omega (arith, c.requires.in_grid.row)) c.cell_no-c.ensures

pub upward-requires : goal.upward-requires
upward-requires c = small-number _ _ _ _ c.requires.sides c.requires.in_grid.column (omega (arith, c.requires.in_grid.row)) c.cell_no.ensures

pub across-requires-2 : goal.across-requires-2
across-requires-2 c = small-number _ _ _ _ c.requires.sides (omega (arith, c.requires.in_grid.column)) c.requires.in_grid.row c.cell_no-2.ensures

pub upward-requires-2 : goal.upward-requires-2
upward-requires-2 c = small-number _ _ _ _ c.requires.sides (omega (arith, c.requires.in_grid.column)) (omega (arith, c.requires.in_grid.row)) c.cell_no-c.ensures

pub returns : goal.returns
returns c = edges_are _ _ _ _ _ _ _ _ _ _ c.cell_no-c.ensures c.cell_no.ensures c.cell_no-2.ensures c.across.ensures c.upward.ensures c.across-2.ensures c.upward-2.ensures
