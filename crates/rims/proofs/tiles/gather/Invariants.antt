-- `rims::tiles::gather` meets its contract. The invariant: the columns so far are marked, and what was marked is. Assumes nothing.
use Rattle.rims.specs.Tiles.{Keeps, Gathered}
use Rattle.rims.proofs.tiles.gather.Given as goal

abbrev pub invariant-loop-i : goal.invariant-loop-i
invariant-loop-i l = Keeps l.initial.cols l.cols × Gathered l.map l.a l.i l.cols
