-- `geom::region::widen` meets its contract. Assumes nothing.
use Rattle.geom.specs.Region.{widened}
use Rattle.geom.proofs.region.widen.Goals as goal

pub returns : goal.returns
unfolding widened
returns c = rw (c.min-x0.ensures, c.min-y0.ensures, c.max-x1.ensures, c.max-y1.ensures)
