-- `entry::judge::pocket_of` meets its contract. Assumes nothing.
use native.Mathlib.Omega.{arith}
use Rattle.entry.proofs.RegionsLaws.{pocket_is}
use Rattle.entry.proofs.judge.pocket_of.Goals as goal

pub returns : goal.returns
returns c = pocket_is c.args.lens.now c.args.regions.now
