-- `links::straight::Ground::samples_clear` meets its contract. The invariant: no sample before k is blocked. Assumes nothing.
use mathlib.Core.Bool.{false}
use Prim.Native.Nat.{◌+◌}
use Rattle.loops.specs.Loop.{or_at}
use Rattle.loops.proofs.LoopLaws.{Going}
use Rattle.setup.specs.Tables.{less_of}
use Rattle.links.specs.Straight.{sample_blocked}
use Rattle.links.proofs.straight.Ground.samples_clear.Given as goal

abbrev pub invariant-loop-k : goal.invariant-loop-k
invariant-loop-k l = Going (or_at (sample_blocked l.self.setup l.self.wall.now l.self.vs.now l.self.lens.now l.self.map.now (less_of l.self.setup) l.a l.b l.n)) 0 (l.n + 1) false false l.k
