-- `field::band::end_of` meets its contract. Assumes nothing.
use Prim.Native.Nat.{◌≤◌}
use lib.ListN.{length}
use Rattle.field.specs.Bands.{Unmarked}
use Rattle.field.proofs.band.end_of.Given as goal

abbrev pub invariant-loop-k : goal.invariant-loop-k
invariant-loop-k l = (l.k ≤ length l.marks) × Unmarked l.marks l.k (length l.marks)
