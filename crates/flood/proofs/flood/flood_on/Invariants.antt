-- `flood::flood::flood_on` meets its contract. Assumes nothing.
use mathlib.Core.Path.{◌≡◌}
use lib.ListN.{length, get_or}
use Rattle.flood.proofs.FloodLaws.{Flooding}
use Rattle.flood.proofs.flood.flood_on.Given as goal

abbrev pub invariant-loop-t : goal.invariant-loop-t
invariant-loop-t l = (length l.stack ≡ length l.initial.stack) × Flooding l.g l.initial.b (get_or l.initial.stack 0 0) l.b l.stack l.len l.t
