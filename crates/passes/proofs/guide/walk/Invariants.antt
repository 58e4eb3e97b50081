-- `passes::guide::walk` meets its contract. The invariant: the points so far are laid. Assumes nothing.
use Prim.Native.Nat.{◌≤◌}
use Rattle.passes.proofs.LayLaws.{Walked}
use Rattle.passes.proofs.guide.walk.Given as goal

abbrev pub invariant-loop-i : goal.invariant-loop-i
invariant-loop-i l = Walked l.from l.m l.start l.to l.initial.w l.w l.i × (l.i ≤ l.n)
