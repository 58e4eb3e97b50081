-- `dilation::widths::narrowed` meets its contract. Assumes nothing.
use Prim.Native.Nat.{◌+◌, ◌≤◌}
use Rattle.distance.specs.Least.{square}
use Rattle.dilation.proofs.widths.narrowed.Given as goal

abbrev pub invariant-loop-u : goal.invariant-loop-u
invariant-loop-u l = (l.u ≤ l.w) × (l.e ≤ square l.u + square l.d)
