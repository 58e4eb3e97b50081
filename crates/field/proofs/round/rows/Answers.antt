-- `field::round::rows` meets its contract. Assumes nothing.
use Rattle.field.proofs.DoneLaws.{sensing_in, rowed_is}
use Rattle.field.proofs.round.rows.Goals as goal

pub field_rows-requires : goal.field_rows-requires
field_rows-requires c = record { sensing = sensing_in _ _ _ _ _ c.requires.ready _ _ _ _ c.cells-n.ensures c.allowed-a.ensures c.near-d.ensures c.rim-r.ensures; left_le_nx = c.requires.left_le_nx }

pub returns : goal.returns
returns c = rowed_is _ _ _ _ _ c.requires.ready _ _ _ _ c.cells-n.ensures c.allowed-a.ensures c.near-d.ensures c.rim-r.ensures _ _ _ _ c.field_rows.ensures
