-- `start::stock::stock` meets its contract. Assumes nothing.
use native.Mathlib.Omega.{arith}
use Rattle.start.proofs.StockLaws.{stocked_is}
use Rattle.start.proofs.stock.stock.Goals as goal

pub returns : goal.returns
returns c = stocked_is _ _ _ _ _ _ c.cells-n.ensures _ _ _ (omega (arith, c.requires.nx_in_bounds, c.fill_regions.auto.b)) c.fill_regions.ensures c.fill_map.ensures c.clear_abandoned.ensures
