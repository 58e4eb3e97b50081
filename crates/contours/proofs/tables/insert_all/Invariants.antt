-- `contours::tables::insert_all` meets its contract. The invariant: k segments are in the tables. Assumes nothing.
use Rattle.std.proofs.Common.{◌≤◌}
use Rattle.contours.specs.Traced.{Inserted}
use Rattle.contours.proofs.tables.insert_all.Given as goal

abbrev pub invariant-loop-k : goal.invariant-loop-k
invariant-loop-k l = Inserted l.n l.k l.initial.words l.initial.marks l.words l.marks × (l.k ≤ l.m)
