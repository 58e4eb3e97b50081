-- `raster::contact::fill_rim` meets its contract. The invariant: the table is what the samples so far leave. Assumes nothing.
use mathlib.Core.Path.{◌≡◌, ap, ◌∙◌}
use Prim.Native.Nat.{◌+◌, ◌*◌, ◌<◌}
use native.Mathlib.Omega.{arith}
use lib.ListN.{length, length-set}
use Rattle.loops.proofs.LoopLaws.{going_none, going_more, going_end}
use Rattle.raster.specs.Contact.{rimmed}
use Rattle.raster.proofs.ContactLaws.{rim-long, rim-is, put_is}
use Rattle.raster.proofs.contact.fill_rim.Goals as goal
use Rattle.raster.proofs.contact.fill_rim.Goals.{At-loop-k, In-loop-k}

pub loop-k-init : goal.loop-k-init
loop-k-init c = going_none _ _ _ _

pub loop-k-preserved : goal.loop-k-preserved
loop-k-preserved c = going_more _ _ _ _ _ _ _ c.loop-k.invariant c.loop-k-test.true (put_is _ _ _ _ c.direction_at-u.ensures)

pub returns : goal.returns
unfolding rimmed
returns c = let e = going_end _ _ _ _ _ _ c.loop-k.invariant c.loop-k-test.false in (e, rim-is _ _ _ c.requires e)
