-- `contours::march::march_squares` meets its contract. The invariant: the m first are the segments so far. Assumes nothing.
use Rattle.std.proofs.Common.{◌≡◌, ◌+◌, ◌-◌, ◌*◌, ◌≤◌, length}
use Rattle.loops.proofs.LoopLaws.{Going}
use Rattle.contours.specs.March.{segments_of, march_square}
use Rattle.contours.proofs.march.march_squares.Given as goal

abbrev pub invariant-loop-i : goal.invariant-loop-i
invariant-loop-i l = Going (λ k. march_square l.g l.f l.level k l.j) l.a l.e (segments_of l.n l.initial.segs) (segments_of l.m l.segs) l.i × (l.m ≤ l.n + 2 * (l.i - l.a)) × (length l.segs ≡ length l.initial.segs)
