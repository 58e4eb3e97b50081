-- `rims::offsets::are_told` meets its contract. Assumes nothing.
use Prim.Native.Nat.{◌≤◌}
use Rattle.rims.specs.Offsets.{AllTold}
use Rattle.rims.proofs.offsets.are_told.Given as goal

abbrev pub invariant-loop-k : goal.invariant-loop-k
invariant-loop-k l = AllTold l.k l.w × (l.k ≤ l.n)
