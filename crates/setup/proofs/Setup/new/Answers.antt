-- `setup::Setup::new` meets its contract. Assumes nothing.
use Rattle.setup.specs.Made.{setup_of}
use Rattle.setup.proofs.MadeLaws.{decided_is}
use Rattle.setup.proofs.Setup.new.Goals as goal

pub returns : goal.returns
unfolding setup_of
returns c = rw (← c.to_radians.ensures, ← c.guard_of-guard.ensures, ← c.target_of.ensures, ← c.samples_of.ensures, decided_is _ c.of-keep.result c.of-keep.ensures.r c.of-keep.ensures.below)
