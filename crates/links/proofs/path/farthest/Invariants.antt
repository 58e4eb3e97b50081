-- `links::path::farthest` meets its contract. The invariant: no point from k on is in view. Assumes nothing.
use Rattle.links.specs.Path.{farthest_of, clear_in, path_in}
use Rattle.geom.specs.Region.{vertex_of}
use Prim.Native.Nat.{◌-◌, ◌≤◌}
use mathlib.Core.Path.{◌≡◌}
use Rattle.links.proofs.path.farthest.Given as goal

abbrev pub invariant-loop-k : goal.invariant-loop-k
invariant-loop-k l = (l.first ≤ l.k) × ((l.k ≤ l.end) × (farthest_of (clear_in l.s l.vs l.lens l.map l.w) (vertex_of (path_in l.s l.w)) l.here l.first (l.k - l.first) ≡ farthest_of (clear_in l.s l.vs l.lens l.map l.w) (vertex_of (path_in l.s l.w)) l.here l.first (l.end - l.first)))
