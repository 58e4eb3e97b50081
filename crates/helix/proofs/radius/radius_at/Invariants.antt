-- `helix::radius::radius_at` meets its contract. Assumes nothing.
use Rattle.loops.specs.Loop.{on, turn}
use Rattle.loops.proofs.LoopLaws.{Going}
use Rattle.events.specs.Helix.{shrink}
use Rattle.helix.specs.Search.{bare_job}
use Rattle.helix.proofs.radius.radius_at.Given as goal

abbrev pub invariant-loop-k : goal.invariant-loop-k
invariant-loop-k l = Going (turn (shrink (bare_job l.s l.wall l.vs l.lens) l.c)) 0 65 (on l.widest) (on l.radius) l.k
