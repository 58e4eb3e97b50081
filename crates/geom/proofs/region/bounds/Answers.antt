-- `geom::region::bounds` meets its contract. Assumes nothing.
use Rattle.geom.proofs.RegionLaws.{first-held, bounds-is}
use Rattle.geom.proofs.region.bounds.Goals as goal

pub loop_bounds-requires : goal.loop_bounds-requires
loop_bounds-requires c = first-held c.args.lens.now c.args.g c.args.vs.now c.requires c.size.result c.size.ensures

pub returns : goal.returns
returns c = let s = c.args in
    bounds-is s.vs.now s.lens.now s.g _ _ c.size.ensures c.loop_bounds.ensures
