-- `links::lattice::spacing` meets its contract. Assumes nothing.
use Rattle.links.proofs.LatticeLaws.{spacing_is}
use Rattle.links.proofs.lattice.spacing.Goals as goal

pub returns : goal.returns
returns c = spacing_is _ _ _ _ _ c.round-n.ensures c.max.ensures c.sat_u64.ensures
