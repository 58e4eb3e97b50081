-- `contours::march::march` meets its contract. The invariant: the n first are the segments of the rows so far. Assumes nothing.
use Rattle.std.proofs.Common.{◌≡◌, ◌-◌, ◌*◌, ◌≤◌, [], length}
use Rattle.loops.proofs.LoopLaws.{Going}
use Rattle.contours.specs.March.{segments_of, march_row}
use Rattle.contours.proofs.march.march.Given as goal

abbrev pub invariant-loop-j : goal.invariant-loop-j
invariant-loop-j l = Going (march_row l.g l.f l.level) 0 (l.g.ny - 1) [] (segments_of l.n l.segs) l.j × (l.n ≤ 2 * (l.j * l.g.nx)) × (length l.segs ≡ length l.initial.segs)
