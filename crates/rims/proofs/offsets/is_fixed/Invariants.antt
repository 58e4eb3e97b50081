-- `rims::offsets::is_fixed` meets its contract. The invariant: it is so of the cells before i. Assumes nothing.
use Rattle.rims.proofs.OffsetLaws.{FixedTo}
use Rattle.rims.proofs.offsets.is_fixed.Given as goal

abbrev pub invariant-loop-i : goal.invariant-loop-i
invariant-loop-i l = FixedTo l.o l.cell l.n l.s l.v l.a l.i
