-- `start::allowed::fill_allowed` meets its contract. The invariant: the cells before k are filled, and the block holds for those from k on. Assumes nothing.
use Rattle.loops.proofs.LoopLaws.{Going}
use Rattle.start.specs.Blocks.{Told}
use Rattle.start.proofs.WriteLaws.{write_from}
use Rattle.start.proofs.ReachLaws.{may_with}
use Rattle.start.proofs.allowed.fill_allowed.Given as goal

abbrev pub invariant-loop-k : goal.invariant-loop-k
invariant-loop-k l = Going (write_from l.a (may_with l.s l.vs l.lens l.n l.initial.b l.w)) 0 l.n l.initial.b l.b l.k × Told l.s l.vs l.lens l.k l.block
