-- `contours::edge::far_cell` meets its contract. Assumes nothing.
use Rattle.std.proofs.Common.{◌≡◌, ◌+◌, ◌∙◌, arith}
use Rattle.contours.specs.Edge.{far_of}
use Rattle.contours.proofs.edge.far_cell.Goals as goal
use Rattle.contours.proofs.edge.far_cell.Goals.{After-struct_known-1, Else-is_upward}

-- the number of the cell upward, and of the one to the right
up : (c : After-struct_known-1) → c.index_of-k.result + c.args.g.nx ≡ far_of c.args.g c.args.e
unfolding far_of
up c = rw (← c.is_upward.ensures, c.if-is_upward.true, ← c.lower_cell.ensures, ← c.index_of-k.ensures)

across : (c : Else-is_upward) → c.index_of-k.result + 1 ≡ far_of c.args.g c.args.e
unfolding far_of
across c = rw (← c.is_upward.ensures, c.if-is_upward.false, ← c.lower_cell.ensures, ← c.index_of-k.ensures)

pub cell_at-requires : goal.cell_at-requires
cell_at-requires c = omega (arith, up (goal.at.cell_at-requires c).After-struct_known-1, c.requires.sides.cells, c.requires.between.far)

pub cell_at-requires-else-is_upward : goal.cell_at-requires-else-is_upward
cell_at-requires-else-is_upward c = omega (arith, across (goal.at.cell_at-requires-else-is_upward c).Else-is_upward, c.requires.sides.cells, c.requires.between.far)

pub returns-then-is_upward : goal.returns-then-is_upward
returns-then-is_upward c = c.cell_at.ensures ∙ up (goal.at.returns-then-is_upward c).After-struct_known-1

pub returns-else-is_upward : goal.returns-else-is_upward
returns-else-is_upward c = c.cell_at-else-is_upward.ensures ∙ across (goal.at.returns-else-is_upward c).Else-is_upward
