-- `dilation::window::shade_rows` meets its contract. Assumes nothing.
use mathlib.Core.Path.{◌≡◌}
use Prim.Native.Nat.{◌≤◌}
use lib.ListN.{length}
use Rattle.dilation.specs.Parts.{Shading}
use Rattle.dilation.proofs.window.shade_rows.Given as goal

abbrev pub invariant-loop-j : goal.invariant-loop-j
invariant-loop-j l = Shading l.marks l.nx l.w l.step l.phase l.b.near l.b.far l.j l.work l.dist × (length l.work ≡ length l.initial.work) × (length l.dist ≡ 4096) × (l.j ≤ l.w.hi)
