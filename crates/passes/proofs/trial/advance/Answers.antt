-- `passes::trial::advance` meets its contract. Assumes nothing.
use Rattle.loops.specs.Regions.{within}
use Rattle.passes.proofs.SimulateLaws.{advance_is}
use Rattle.passes.proofs.trial.advance.Goals as goal

pub clear_crescent-n-requires : goal.clear_crescent-n-requires
unfolding within
clear_crescent-n-requires c = record { over = c.requires.fit.over; ready = c.requires.fit.ready; spanning = c.requires.tables.spans }

pub returns : goal.returns
returns c = advance_is _ _ _ _ _ _ _ _ _ _ _ _ _ c.clear_crescent-n.ensures c.put_triple.ensures
