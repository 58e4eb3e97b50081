-- `prints::print` meets its contract. Assumes nothing.
use mathlib.Core.Path.{◌≡◌}
use lib.ListN.{drop}
use Rattle.prints.specs.Print.{printed}
use Rattle.prints.proofs.print.Given as goal

abbrev pub invariant-loop-v : goal.invariant-loop-v
invariant-loop-v g l = printed g.T.Printed.number l.h (drop l.v-index l.s) ≡ printed g.T.Printed.number 1 l.s
