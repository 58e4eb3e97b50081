-- `pocket::ranges::coordinates_fit` meets its contract. Assumes nothing.
use mathlib.Core.Bool.{false}
use lib.ListN.{length}
use Rattle.loops.specs.Loop.{or_at}
use Rattle.loops.proofs.LoopLaws.{Going}
use Rattle.pocket.specs.Ranges.{strayed}
use Rattle.pocket.proofs.ranges.coordinates_fit.Given as goal

abbrev pub invariant-loop-x : goal.invariant-loop-x
invariant-loop-x l = Going (or_at (strayed l.vs)) 0 (length l.vs) false false l.x-index
