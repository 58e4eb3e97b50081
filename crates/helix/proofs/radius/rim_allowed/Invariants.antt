-- `helix::radius::rim_allowed` meets its contract. Assumes nothing.
use mathlib.Core.Bool.{false}
use Rattle.loops.specs.Loop.{or_at}
use Rattle.loops.proofs.LoopLaws.{Going}
use Rattle.events.specs.Helix.{rim_blocked}
use Rattle.helix.specs.Search.{bare_job}
use Rattle.helix.proofs.radius.rim_allowed.Given as goal

abbrev pub invariant-loop-k : goal.invariant-loop-k
invariant-loop-k l = Going (or_at (rim_blocked (bare_job l.s l.wall l.vs l.lens) l.c l.radius)) 0 36 false false l.k
