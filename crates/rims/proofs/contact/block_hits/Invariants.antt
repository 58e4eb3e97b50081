-- `rims::contact::block_hits` meets its contract. The invariant: the hits are those of the block's samples so far. Assumes nothing.
use Prim.Native.Nat.{◌*◌}
use Rattle.loops.proofs.LoopLaws.{Going}
use Rattle.raster.specs.Contact.{hit_at}
use Rattle.rims.proofs.contact.block_hits.Given as goal

abbrev pub invariant-loop-k : goal.invariant-loop-k
invariant-loop-k l = Going (hit_at l.g l.map l.c l.r l.n) (8 * l.b) l.k-end 0 l.h l.k
