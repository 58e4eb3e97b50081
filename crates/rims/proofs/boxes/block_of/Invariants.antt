-- `rims::boxes::block_of` meets its contract. The invariant: the boxes of the entries so far lie in the columns from a to b and the rows from c to d. Assumes nothing.
use Prim.Native.Nat.{◌≤◌}
use Rattle.rims.specs.Boxes.{InsideTo}
use Rattle.rims.proofs.boxes.block_of.Given as goal

abbrev pub invariant-loop-e : goal.invariant-loop-e
invariant-loop-e l = (l.a ≤ 4096) × (l.c ≤ 4096) × InsideTo l.es l.a l.b l.c l.d l.e-index
