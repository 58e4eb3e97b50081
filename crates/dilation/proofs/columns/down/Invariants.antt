-- `dilation::columns::down` meets its contract. Assumes nothing.
use mathlib.Core.Path.{◌≡◌}
use Prim.Native.Nat.{◌≤◌}
use lib.ListN.{length}
use Rattle.dilation.specs.Parts.{Runs, Down}
use Rattle.dilation.proofs.columns.down.Given as goal

abbrev pub invariant-loop-j : goal.invariant-loop-j
invariant-loop-j l = Down l.marks l.nx l.w l.j l.work × Runs l.marks l.nx l.w l.j l.run × (length l.work ≡ length l.initial.work) × (length l.run ≡ 4096) × (l.w.lo ≤ l.j)
