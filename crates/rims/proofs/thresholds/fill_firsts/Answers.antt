-- `rims::thresholds::fill_firsts` meets its contract. The invariant: the first numbers of the cells so far stand in the table, and nothing else has changed. Assumes nothing.
use Prim.Native.Nat.{◌+◌, ◌<◌}
use native.Mathlib.Omega.{arith}
use lib.ListN.{length}
use Rattle.loops.proofs.Cases.{never}
use Rattle.numbers.proofs.RootLaws.{no_nan_bits}
use Rattle.rims.proofs.FirstLaws.{apart_none, apart-set, firsts-none, firsts_more, firsts-end}
use Rattle.rims.proofs.thresholds.fill_firsts.Goals as goal
use Rattle.rims.proofs.thresholds.fill_firsts.Goals.{In-Some}

pub float_from_bits-w : goal.float_from_bits-w
float_from_bits-w c = no_nan_bits _ c.in-Some.ensures.0
