-- `spans::runs::has_stock` meets its contract. The invariant: none of the cells so far is stock. Assumes nothing.
use mathlib.Core.Bool.{false}
use Rattle.loops.specs.Loop.{or_at}
use Rattle.loops.proofs.LoopLaws.{Going}
use Rattle.spans.specs.Ends.{is_stock}
use Rattle.spans.proofs.runs.has_stock.Given as goal

abbrev pub invariant-loop-k : goal.invariant-loop-k
invariant-loop-k l = Going (or_at (is_stock l.map)) l.from l.to false false l.k
