-- `rims::sums::add_samples` meets its contract. The invariant: the samples so far are summed up. Assumes nothing.
use Prim.Native.Nat.{◌≤◌}
use Rattle.rims.specs.Sums.{Summed}
use Rattle.rims.proofs.sums.add_samples.Given as goal

abbrev pub invariant-loop-k : goal.invariant-loop-k
invariant-loop-k l = Summed l.g l.map l.r l.n l.i l.j l.k l.counts × (l.k ≤ l.n)
