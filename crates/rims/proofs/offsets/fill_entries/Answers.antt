-- `rims::offsets::fill_entries` meets its contract. The invariant: the entries of the samples so far stand behind the directions. Assumes nothing.
use mathlib.Core.Path.{refl}
use Prim.Native.Nat.{◌+◌, ◌<◌}
use native.Mathlib.Omega.{arith}
use lib.ListN.{length}
use Rattle.numbers.proofs.RootLaws.{no_nan_bits}
use Rattle.rims.proofs.OffsetLaws.{begun-none, begun-next, begun-end}
use Rattle.rims.proofs.offsets.fill_entries.Goals as goal
use Rattle.rims.proofs.offsets.fill_entries.Goals.{In-loop-k}

pub float_from_bits-w : goal.float_from_bits-w
float_from_bits-w c = no_nan_bits c.entry_of.result (omega (arith, c.entry_of.ensures.0))

pub loop-k-preserved : goal.loop-k-preserved
loop-k-preserved c = let p = c.requires in
    begun-next _ _ _ _ p.n_bound p.in_bounds _ _ _ _ c.loop-k-test.true c.reach_of-s.ensures.0 c.entry_of.ensures c.loop-k.invariant
