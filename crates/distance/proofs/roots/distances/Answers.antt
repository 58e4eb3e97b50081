-- `distance::roots::distances` meets its contract. The invariant: the numbers before k are done. Assumes nothing.
use mathlib.Core.Path.{refl, ap, ◌∙◌}
use Rattle.distance.specs.Rooted.{rooted_of}
use native.Mathlib.Omega.{arith}
use lib.ListN.{length-set}
use lib.Seq.{get_or-take, length-take-le}
use Rattle.distance.proofs.RootedLaws.{rooted_none, rooted_more, rooted-same, distances_are}
use Rattle.distance.proofs.roots.distances.Goals as goal

pub returns : goal.returns
returns c = let i = c.loop-k.invariant in distances_are _ _ _ _ (omega arith) i.long (rooted-same (omega (arith, length-take-le c.args.n c.args.squares.now c.requires.n_in_bounds)) i.done)
