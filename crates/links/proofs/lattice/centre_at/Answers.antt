-- `links::lattice::centre_at` meets its contract. Assumes nothing.
use Rattle.links.proofs.LatticeLaws.{centre-is}
use Rattle.links.proofs.lattice.centre_at.Goals as goal

pub returns : goal.returns
returns c = centre-is _ _ _ _ _ _ _ c.cell_along-i.ensures c.cell_along-j.ensures c.center.ensures
