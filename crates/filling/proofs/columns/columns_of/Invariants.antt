-- `filling::columns::columns_of` meets its contract. The invariant: the bytes and the last pair tell the answers of the edges so far. Assumes nothing.
use Rattle.std.specs.Prelude.{IfSome}
use Rattle.filling.specs.Columns.{left_from}
use mathlib.Core.Path.{◌≡◌}
use Prim.Native.Nat.{◌-◌, ◌<◌}
use lib.ListN.{length}
use Rattle.filling.proofs.ScanLaws.{Scanned}
use Rattle.filling.proofs.columns.columns_of.Given as goal

abbrev pub invariant-loop-next : goal.invariant-loop-next
invariant-loop-next l = Scanned l.xs l.vs l.at l.n l.y l.a l.b l.many l.row (left_from l.n l.next) × (length l.row ≡ length l.initial.row) × IfSome l.next (λ i. i < l.n)

abbrev pub decreases-loop-next : goal.decreases-loop-next
decreases-loop-next l = l.n - left_from l.n l.next
