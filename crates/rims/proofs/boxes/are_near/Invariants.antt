-- `rims::boxes::are_near` meets its contract. The invariant: so it is of the cells so far. Assumes nothing.
use Prim.Native.Nat.{◌≤◌}
use Rattle.rims.specs.Boxes.{EdgesTo}
use Rattle.rims.proofs.boxes.are_near.Given as goal

abbrev pub invariant-loop-i : goal.invariant-loop-i
invariant-loop-i l = EdgesTo l.o l.cell l.n l.s l.v l.a l.i × (l.s ≤ l.i)
