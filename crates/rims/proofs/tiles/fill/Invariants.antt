-- `rims::tiles::fill` meets its contract. The invariant: the tiles of the stock in the rows so far are marked. Assumes nothing.
use Prim.Native.Nat.{◌*◌}
use Rattle.rims.specs.Tiles.{Keeps, StockMarked}
use Rattle.rims.proofs.tiles.fill.Given as goal

abbrev pub invariant-loop-y : goal.invariant-loop-y
invariant-loop-y l = Keeps l.initial.tiles l.tiles × StockMarked l.g l.map 0 (8 * l.y) l.tiles
