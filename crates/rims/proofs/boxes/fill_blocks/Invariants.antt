-- `rims::boxes::fill_blocks` meets its contract. The invariant: the blocks so far stand in the table, and nothing else has changed. Assumes nothing.
use Prim.Native.Nat.{◌+◌}
use Rattle.rims.specs.Boxes.{Apart, BlocksTo}
use Rattle.rims.proofs.boxes.fill_blocks.Given as goal

abbrev pub invariant-loop-b : goal.invariant-loop-b
invariant-loop-b l = Apart (l.at + 2049) (l.at + 2304) l.initial.w l.w × BlocksTo l.n l.at l.b l.w
