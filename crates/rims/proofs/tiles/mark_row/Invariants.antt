-- `rims::tiles::mark_row` meets its contract. The invariant: the tiles so far are marked whose columns are, and what was marked is. Assumes nothing.
use Rattle.rims.specs.Tiles.{Keeps, ColumnsMarked}
use Rattle.rims.proofs.tiles.mark_row.Given as goal

abbrev pub invariant-loop-x : goal.invariant-loop-x
invariant-loop-x l = Keeps l.initial.tiles l.tiles × ColumnsMarked l.n l.y l.cols l.x l.tiles
