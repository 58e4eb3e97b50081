-- `flood::place::farther` meets its contract. Assumes nothing.
use Rattle.flood.proofs.PlaceLaws.{farther_new, farther_old}
use Rattle.flood.proofs.place.farther.Goals as goal

pub returns-then-is_open-b : goal.returns-then-is_open-b
returns-then-is_open-b c = farther_new _ _ _ _ c.requires.k_lt_n _ c.allowed-allowed.ensures _ c.is_open.ensures _ c.if-is_open-b.true _ c.cell_at.ensures _ c.better.ensures

pub returns : goal.returns
returns c = farther_old _ _ _ _ c.requires.k_lt_n _ c.allowed-allowed.ensures _ c.is_open.ensures _ c.if-is_open-b.false
