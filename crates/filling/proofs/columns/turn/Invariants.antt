-- `filling::columns::turn` meets its contract. The invariant: the bytes before i are turned round. Assumes nothing.
use Prim.Native.Nat.{◌≤◌, max}
use Rattle.filling.specs.Columns.{Turned}
use Rattle.filling.proofs.columns.turn.Given as goal

abbrev pub invariant-loop-i : goal.invariant-loop-i
invariant-loop-i l = (l.a ≤ l.i) × (l.i ≤ max l.a l.b) × Turned l.a l.i l.initial.row l.row
