-- `rims::tiles::fill` meets its contract. The invariant: the tiles of the stock in the rows so far are marked. Assumes nothing.
use native.Mathlib.Omega.{arith}
use Rattle.rims.proofs.TileLaws.{stock-none, stock_more, tiled_is}
use Rattle.rims.proofs.tiles.fill.Goals as goal

pub returns : goal.returns
returns c = tiled_is _ _ c.requires.over.sides _ _ _ c.requires.in_bounds (omega (arith, c.loop-y-test.false, c.tiles_of-y-end.ensures)) c.loop-y.invariant
