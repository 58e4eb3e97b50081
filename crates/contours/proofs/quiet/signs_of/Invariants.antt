-- `contours::quiet::signs_of` meets its contract. The invariant: each flag is of the values so far. Assumes nothing.
use Rattle.std.proofs.Common.{false, get_or, ◌+◌}
use lib.Ieee.{nan, lt, le}
use Rattle.loops.specs.Loop.{or_at}
use Rattle.loops.proofs.LoopLaws.{Going}
use Rattle.contours.proofs.quiet.signs_of.Given as goal

abbrev pub invariant-loop-v : goal.invariant-loop-v
invariant-loop-v l = Going (or_at (λ i. lt l.level (get_or l.f i nan))) l.from l.to false l.above (l.from + l.v-index) × Going (or_at (λ i. le (get_or l.f i nan) l.level)) l.from l.to false l.below (l.from + l.v-index)
