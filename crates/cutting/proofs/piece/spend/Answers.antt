-- `cutting::piece::spend` meets its contract. Assumes nothing.
use Rattle.cutting.proofs.KeepLaws.{spend_is}
use Rattle.cutting.proofs.piece.spend.Goals as goal

pub returns : goal.returns
returns c = spend_is _ _ _ c.sat_add.ensures
