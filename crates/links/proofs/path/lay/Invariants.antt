-- `links::path::lay` meets its contract. Assumes nothing.
use mathlib.Core.Path.{◌≡◌}
use lib.ListN.{length}
use Rattle.links.proofs.LayLaws.{Laying, all_from}
use Rattle.links.proofs.path.lay.Given as goal

abbrev pub invariant-loop-k : goal.invariant-loop-k
invariant-loop-k l = Laying l.net.lattice l.before (all_from l.net.lattice l.before l.initial.k l.initial.ps l.initial.v.0) l.ps l.k l.v.0 × (length l.ps ≡ length l.initial.ps)

abbrev pub decreases-loop-k : goal.decreases-loop-k
decreases-loop-k l = l.k
