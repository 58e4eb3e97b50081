-- `rims::contact::box_hits` meets its contract. The invariant: the hits are those of the blocks so far. Assumes nothing.
use mathlib.Core.Path.{◌≡◌}
use Prim.Native.Nat.{◌+◌, ◌*◌, ◌<◌, min}
use Rattle.loops.specs.Loop.{loop}
use Rattle.raster.specs.Contact.{hit_at}
use Rattle.rims.proofs.contact.box_hits.Given as goal

abbrev pub invariant-loop-b : goal.invariant-loop-b
invariant-loop-b l = (8 * l.b < l.n + 8) × (l.h ≡ loop (hit_at l.g l.map l.c l.r l.n) 0 (min (8 * l.b) l.n) 0)
