-- `start::stock::fill_map` meets its contract. Assumes nothing.
use Rattle.loops.proofs.LoopLaws.{Going}
use Rattle.setup.specs.Layout.{run}
use Rattle.start.specs.Steps.{stock_at}
use Rattle.start.proofs.WriteLaws.{write_from}
use Rattle.start.proofs.stock.fill_map.Given as goal

abbrev pub invariant-loop-k : goal.invariant-loop-k
invariant-loop-k l = Going (write_from 0 (stock_at l.whole (run 5 l.n l.initial.b) (run 3 l.n l.initial.b))) 0 l.n l.initial.b l.b l.k
