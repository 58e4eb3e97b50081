-- `distance::roots::distance_of` meets its contract. Assumes nothing.
use borrow.Author.Tests.{eq-eqb, ne_eqb}
use lib.Ieee.{nan_bits, of_bits, of_int, round}
use Rattle.numbers.specs.Root.{root_of}
use Rattle.distance.specs.Least.{far}
use Rattle.distance.specs.Rooted.{rooted_of}
use Rattle.distance.proofs.roots.distance_of.Goals as goal

pub float_from_bits-result : goal.float_from_bits-result
unfolding nan_bits
float_from_bits-result c = tt

pub returns-then-square-eq-FAR : goal.returns-then-square-eq-FAR
unfolding rooted_of of_bits
returns-then-square-eq-FAR c = rw (eq-eqb c.args.square far c.if-square-eq-FAR.true)

pub returns-then-square-eq0 : goal.returns-then-square-eq0
unfolding rooted_of root_of of_int round of_bits
returns-then-square-eq0 c = rw c.if-square-eq0.true

pub returns : goal.returns
unfolding rooted_of
returns c = rw (ne_eqb c.args.square far c.if-square-eq-FAR.false) c.whole_root.ensures
