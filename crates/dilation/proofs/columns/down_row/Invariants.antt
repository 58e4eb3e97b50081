-- `dilation::columns::down_row` meets its contract. Assumes nothing.
use mathlib.Core.Path.{◌≡◌}
use Prim.Native.Nat.{◌+◌, ◌≤◌}
use lib.ListN.{length, get_or}
use Rattle.distance.specs.Column.{from_above}
use Rattle.distance.specs.Wrote.{Wrote}
use Rattle.dilation.proofs.columns.down_row.Given as goal

abbrev pub invariant-loop-i : goal.invariant-loop-i
invariant-loop-i l = Wrote (λ k. from_above (get_or l.marks (l.base + k) 0) 1 (get_or l.initial.run k 0)) 0 0 l.i l.initial.run l.run × Wrote (λ k. from_above (get_or l.marks (l.base + k) 0) 1 (get_or l.initial.run k 0)) l.base 0 l.i l.initial.work l.work × (l.i ≤ l.n) × (length l.run ≡ length l.initial.run) × (length l.work ≡ length l.initial.work)
