-- `geom::region::contains` meets its contract. Assumes nothing.
use mathlib.Core.Path.{◌≡◌}
use Rattle.geom.specs.Region.{inside_loop}
use Rattle.geom.proofs.RegionLaws.{first-held, inside-first, contains_in, contains_out}
use Rattle.geom.proofs.region.contains.Goals as goal
use Rattle.geom.proofs.region.contains.Goals.{After-point_in_loop}

-- the outer loop's answer
outer : (c : After-point_in_loop) → let s = c.args in c.point_in_loop.result ≡ inside_loop s.vs.now s.lens.now s.g s.p 0
outer c = let s = c.args in inside-first s.vs.now s.lens.now s.g s.p _ _ c.size.ensures c.point_in_loop.ensures

pub point_in_loop-requires : goal.point_in_loop-requires
point_in_loop-requires c = first-held c.args.lens.now c.args.g c.args.vs.now c.requires c.size.result c.size.ensures

pub returns-then-point_in_loop : goal.returns-then-point_in_loop
returns-then-point_in_loop c = contains_in _ _ _ _ _ (outer (goal.at.returns-then-point_in_loop c).After-point_in_loop) c.if-point_in_loop.true _ c.in_island.ensures

pub returns-else-point_in_loop : goal.returns-else-point_in_loop
returns-else-point_in_loop c = contains_out _ _ _ _ _ (outer (goal.at.returns-else-point_in_loop c).After-point_in_loop) c.if-point_in_loop.false
