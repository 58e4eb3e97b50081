-- `links::lattice::Net::of` meets its contract. Assumes nothing.
use mathlib.Core.Path.{sym, subst}
use Rattle.links.specs.Lattice.{Laid}
use Rattle.links.proofs.LatticeLaws.{laid}
use Rattle.links.proofs.lattice.Net.of.Goals as goal

pub invariant_of-result : goal.invariant_of-result
invariant_of-result c = let r = c.requires in
    record { laid = subst Laid (sym c.lattice_of-lattice.ensures) (laid _ _ _ _ _ r.sides r.i_lt_nx r.j_lt_ny r.p_lt_nx r.q_lt_ny); bound = c.of-limit.ensures }
