-- `links::lattice::Net::nodes` meets its contract. Assumes nothing.
use native.Mathlib.Omega.{arith}
use Rattle.links.proofs.LatticeLaws.{nodes-most}
use Rattle.links.proofs.lattice.Net.nodes.Goals as goal

pub overflow_mul-result : goal.overflow_mul-result
overflow_mul-result c = omega (arith, nodes-most _ c.args.self.laid)
