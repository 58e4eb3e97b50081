-- `numbers::root::likely` is safe: no pattern that it reads or makes is a NaN's. Nothing is said of its answer. Assumes nothing.
use Rattle.std.proofs.Common.{◌/◌, ◌^◌, ◌<◌, T, sym, subst, arith}
use lib.Ieee.{binary64, to_bits}
use Rattle.numbers.proofs.PartLaws.{no_nan, field_lt}
use Rattle.numbers.proofs.RootLaws.{no_nan_bits}
use Rattle.numbers.proofs.root.likely.Goals as goal
use Rattle.numbers.proofs.root.likely.Goals.{Start}

few : (c : Start) → to_bits binary64 c.args.x / 2 ^ 52 < 2048
few c = field_lt c.args.x (subst T (sym c.well_formed.0.1) tt) c.requires

pub float_to_bits-y : goal.float_to_bits-y
float_to_bits-y c = no_nan c.args.x c.requires

pub overflow_sub-y : goal.overflow_sub-y
overflow_sub-y c = omega (arith, few (goal.at.overflow_sub-y c).Start)

pub float_from_bits-y : goal.float_from_bits-y
float_from_bits-y c = no_nan_bits _ (omega arith)
