-- `rims::offsets::fill_entries` meets its contract. The invariant: the entries of the samples so far stand behind the directions. Assumes nothing.
use lib.ListN.{length}
use Rattle.rims.proofs.OffsetLaws.{Begun}
use Rattle.rims.proofs.offsets.fill_entries.Given as goal

abbrev pub invariant-loop-k : goal.invariant-loop-k
invariant-loop-k l = Begun l.g l.r l.n (length l.initial.w) l.k l.w
