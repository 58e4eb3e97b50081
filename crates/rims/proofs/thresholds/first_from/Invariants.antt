-- `rims::thresholds::first_from` meets its contract. The invariant: the bits are not before the first ones. Assumes nothing.
use Prim.Native.Nat.{◌≤◌}
use Rattle.rims.proofs.thresholds.first_from.Given as goal

abbrev pub invariant-loop-k : goal.invariant-loop-k
invariant-loop-k l = l.b ≤ l.k
