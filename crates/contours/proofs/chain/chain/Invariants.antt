-- `contours::chain::chain` meets its contract. The invariant: some edges were followed, and what is kept of their points is written. The measure: edges that are not used. Assumes nothing.
use Rattle.std.proofs.Common.{◌≡◌, ℕ, ◌-◌, ◌<◌, List, length, set}
use lib.Ieee.{Float}
use Rattle.loops.specs.Cells.{ones}
use Rattle.geom.specs.Points.{put_point}
use Rattle.geom.specs.declared.vec2.Vec2.{Vec2}
use Rattle.raster.specs.declared.grid.Grid.{Grid}
use Rattle.contours.specs.declared.chain.Trail.{Trail}
use Rattle.contours.specs.Chain.{edge_point, Chaining}
use Rattle.contours.proofs.FollowLaws.{Following}
use Rattle.contours.proofs.chain.chain.Given as goal

-- whatever the slices were before the first edge was put
pub record Inv (at : ℕ → Vec2) (g : Grid) (next marks₀ : List ℕ) (pts₀ : List Float) (first s : ℕ) (marks : List ℕ) (pts : List Float) (t : Trail) (cur : ℕ) : Type 0 where
  pub following : (m : List ℕ) (w : List Float) → Chaining g next m w first s → s < length m → marks₀ ≡ set m s 1 → pts₀ ≡ put_point first (at s) w → Following at next m w first s marks pts t cur

abbrev pub invariant-loop-g : goal.invariant-loop-g
invariant-loop-g l = Inv (edge_point l.g l.f l.level) l.g l.next l.initial.marks l.initial.pts l.first l.s.0 l.marks l.pts l.t l.cur.0

abbrev pub decreases-loop-g : goal.decreases-loop-g
decreases-loop-g l = length l.initial.marks - ones l.marks
