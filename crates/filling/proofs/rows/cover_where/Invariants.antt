-- `filling::rows::cover_where` meets its contract. The invariant: what was to be done is done below i, and the rest is as it was. Assumes nothing.
use Prim.Native.Nat.{◌≤◌}
use Rattle.filling.proofs.ColumnLaws.{Covering}
use Rattle.filling.proofs.rows.cover_where.Given as goal

abbrev pub invariant-loop-i : goal.invariant-loop-i
invariant-loop-i l = Covering l.one l.initial.row l.initial.cover l.row l.cover l.i × (l.i ≤ l.n)
