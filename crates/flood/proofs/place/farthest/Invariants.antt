-- `flood::place::farthest` meets its contract. Assumes nothing.
use Rattle.setup.specs.Layout.{map_in, allowed_in}
use Rattle.workspace.specs.Standing.{reach_in, abandoned_in}
use Rattle.loops.proofs.LoopLaws.{Going}
use Rattle.flood.specs.Place.{farther_of}
use Rattle.std.specs.Prelude.{None}
use Rattle.flood.proofs.place.farthest.Given as goal

abbrev pub invariant-loop-k : goal.invariant-loop-k
invariant-loop-k l = Going (farther_of (map_in l.n l.b) (allowed_in l.n l.b) (reach_in l.n l.b) (abandoned_in l.n l.b) l.wall) 0 l.n None l.best l.k
