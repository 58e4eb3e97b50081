-- `start::stock::end_of` meets its contract. Assumes nothing.
use Prim.Native.Nat.{◌+◌}
use Rattle.loops.proofs.LoopLaws.{Going}
use Rattle.geom.specs.Region.{size_of}
use Rattle.start.proofs.stock.end_of.Given as goal

abbrev pub invariant-loop-n : goal.invariant-loop-n
invariant-loop-n l = Going (λ k s. s + size_of l.fn.lens l.fn.r k) 0 l.fn.r.loops l.fn.r.at l.at l.n-index
