-- `links::lattice::across` meets its contract. Assumes nothing.
use native.Mathlib.Omega.{arith}
use native.Mathlib.Nat.{div-le_self}
use Prim.Native.Nat.{◌-◌}
use Rattle.links.proofs.LatticeLaws.{above-is}
use Rattle.links.proofs.lattice.across.Goals as goal

pub returns : goal.returns
returns c = above-is _ _ c.requires.n_nonzero c.requires.k_nonzero
