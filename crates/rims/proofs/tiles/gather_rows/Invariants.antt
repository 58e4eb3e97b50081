-- `rims::tiles::gather_rows` meets its contract. The invariant: the columns of the rows so far are marked, and what was marked is. Assumes nothing.
use Rattle.rims.specs.Tiles.{Keeps, RowsGathered}
use Rattle.rims.proofs.tiles.gather_rows.Given as goal

abbrev pub invariant-loop-j : goal.invariant-loop-j
invariant-loop-j l = Keeps l.initial.cols l.cols × RowsGathered l.g l.map l.first l.j l.cols
