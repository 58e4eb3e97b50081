-- `rims::sums::add_cells` meets its contract. The invariant: the cells so far are added. Assumes nothing.
use Prim.Native.Nat.{◌≤◌}
use Rattle.rims.specs.Sums.{Added}
use Rattle.rims.proofs.sums.add_cells.Given as goal

abbrev pub invariant-loop-c : goal.invariant-loop-c
invariant-loop-c l = Added l.map l.a l.c l.initial.counts l.counts × (l.c ≤ 32)
