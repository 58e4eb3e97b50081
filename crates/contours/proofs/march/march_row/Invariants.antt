-- `contours::march::march_row` meets its contract. The invariant: the m first are the segments so far. Assumes nothing.
use Rattle.std.proofs.Common.{◌≡◌, ◌+◌, ◌-◌, ◌*◌, ◌≤◌, length}
use Rattle.contours.specs.March.{segments_of}
use Rattle.contours.specs.Quiet.{march_run}
use Rattle.contours.proofs.march.march_row.Given as goal

abbrev pub invariant-loop-a : goal.invariant-loop-a
invariant-loop-a l = (segments_of l.m l.segs ≡ march_run l.g l.f l.level 0 l.a l.j (segments_of l.n l.initial.segs)) × (l.a ≤ l.last) × (l.m ≤ l.n + 2 * l.a) × (length l.segs ≡ length l.initial.segs)

abbrev pub decreases-loop-a : goal.decreases-loop-a
decreases-loop-a l = l.last - l.a
