-- `spans::edges::are_edged` meets its contract. The invariant: so it is of each cell so far. Assumes nothing.
use Rattle.spans.specs.Ends.{AllEdged}
use Rattle.spans.proofs.edges.are_edged.Given as goal

abbrev pub invariant-loop-i : goal.invariant-loop-i
invariant-loop-i l = AllEdged l.o l.cell l.i
