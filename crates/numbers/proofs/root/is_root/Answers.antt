-- `numbers::root::is_root` meets its contract: only a pattern whose digits `is_near` passes answers true. Assumes nothing.
use Rattle.std.proofs.Common.{T, sym, subst, arith}
use lib.Ieee.{nan_bits}
use Rattle.loops.proofs.Cases.{never}
use Rattle.numbers.proofs.OrderLaws.{no_nan_below}
use Rattle.numbers.proofs.RootLaws.{at_most, root_by_digits}
use Rattle.numbers.proofs.root.is_root.Goals as goal

pub float_from_bits-t-6 : goal.float_from_bits-t-6
unfolding nan_bits
float_from_bits-t-6 c = tt

pub returns-then-r : goal.returns-then-r
returns-then-r c = λ h.
    root_by_digits _ _ _ _ (subst T (sym c.well_formed.0.1) tt) c.requires c.wrapping_sub_u64-q.ensures.value (c.is_near.ensures h)
