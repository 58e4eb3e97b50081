-- `rims::tiles::mark` meets its contract. Assumes nothing.
use native.Mathlib.Omega.{arith}
use Prim.Native.Nat.{◌*◌, ◌≤◌}
use lib.ListN.{length-set}
use Rattle.rims.proofs.TileLaws.{mark-low, mark-is}
use Rattle.rims.proofs.tiles.mark.Goals as goal
use Rattle.rims.proofs.tiles.mark.Goals.{After-saturating_sub-v}

pub returns : goal.returns
returns c = mark-is c.args.n c.args.x c.args.y _ _ c.args.tiles.now c.requires.0 c.requires.1 c.saturating_sub-u.ensures c.saturating_sub-v.ensures
