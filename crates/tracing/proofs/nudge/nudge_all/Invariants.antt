-- `tracing::nudge::nudge_all` meets its contract. Assumes nothing.
use Prim.Native.Nat.{◌≤◌}
use Rattle.tracing.proofs.RingLaws.{Nudging}
use Rattle.tracing.proofs.nudge.nudge_all.Given as goal

abbrev pub invariant-loop-k : goal.invariant-loop-k
invariant-loop-k l = (l.k ≤ l.m) × Nudging l.s l.vs l.lens l.initial.w l.k l.w
