-- `spans::table::rows` meets its contract. The invariant: the words of the rows so far are told. Assumes nothing.
use mathlib.Core.Path.{◌≡◌}
use lib.ListN.{length}
use Rattle.spans.specs.Ends.{Entries}
use Rattle.spans.proofs.table.rows.Given as goal

abbrev pub invariant-loop-q : goal.invariant-loop-q
invariant-loop-q l = (length l.t ≡ length l.initial.t) × Entries l.g l.r l.s l.q l.t
