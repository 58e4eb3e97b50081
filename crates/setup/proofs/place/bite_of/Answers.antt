-- `setup::place::bite_of` meets its contract. Assumes nothing.
use Rattle.setup.proofs.PlaceLaws.{bite_is}
use Rattle.setup.proofs.place.bite_of.Goals as goal

pub returns : goal.returns
returns c = bite_is _ _ c.cos.ensures
