-- `dilation::columns::up_row` meets its contract. Assumes nothing.
use mathlib.Core.Path.{◌≡◌}
use Prim.Native.Nat.{◌+◌, ◌≤◌}
use lib.ListN.{length, get_or}
use Rattle.distance.specs.Column.{from_below}
use Rattle.distance.specs.Wrote.{Wrote}
use Rattle.dilation.proofs.columns.up_row.Given as goal

abbrev pub invariant-loop-i : goal.invariant-loop-i
invariant-loop-i l = Wrote (λ k. from_below (get_or l.work (l.base + k) 0) (get_or l.initial.run k 0)) 0 0 l.i l.initial.run l.run × (l.i ≤ l.n) × (length l.run ≡ length l.initial.run)
