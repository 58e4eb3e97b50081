-- `setup::tables::fill_rims` meets its contract. Assumes nothing.
use Prim.Native.Nat.{◌≤◌}
use native.Mathlib.Omega.{arith}
use Rattle.raster.specs.Contact.{samples_of}
use Rattle.setup.proofs.TableLaws.{rim-tables}
use Rattle.setup.proofs.tables.fill_rims.Goals as goal
use Rattle.setup.proofs.tables.fill_rims.Goals.{After-samples_of-n}

few : (c : After-samples_of-n) → c.samples_of-n.result ≤ 2048
unfolding samples_of
few c = omega (arith, c.samples_of-n.ensures, c.requires.samples_bound)

pub fill_rim-requires : goal.fill_rim-requires
fill_rim-requires c = omega (arith, few (goal.at.fill_rim-requires c).After-samples_of-n, c.requires.in_bounds)

pub fill-requires : goal.fill-requires
fill-requires c = let p = c.requires in record { sides = p.sides; rim = c.fill_rim.ensures.1; n_bound = few (goal.at.fill-requires c).After-samples_of-n; in_bounds = omega (arith, p.in_bounds, c.fill_rim.auto.rim) }
