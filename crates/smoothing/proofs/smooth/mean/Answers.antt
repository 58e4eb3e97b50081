-- `smoothing::smooth::mean` meets its contract. Assumes nothing.
use Rattle.smoothing.specs.Smooth.{mean_of}
use Rattle.smoothing.proofs.smooth.mean.Goals as goal

pub returns : goal.returns
unfolding mean_of
returns c = rw (c.add-2.ensures, c.scale-2.ensures, c.add.ensures, c.scale.ensures)
