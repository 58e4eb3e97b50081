-- `spans::heights::heights_of` meets its contract. The invariant: the heights are those of the rows so far. Assumes nothing.
use Prim.Native.Nat.{◌≤◌}
use Rattle.spans.specs.Ends.{HighTo}
use Rattle.spans.proofs.heights.heights_of.Given as goal

abbrev pub invariant-loop-j : goal.invariant-loop-j
invariant-loop-j l = (l.s ≤ l.j) × HighTo l.g l.r2 l.s l.q l.j l.h
