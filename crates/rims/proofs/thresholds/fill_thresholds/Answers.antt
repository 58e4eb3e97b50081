-- `rims::thresholds::fill_thresholds` meets its contract. Assumes nothing.
use mathlib.Core.Path.{◌∙◌}
use native.Mathlib.Omega.{arith}
use lib.ListN.{length-set}
use lib.Ieee.{binary64, of_bits}
use Rattle.numbers.proofs.RootLaws.{no_nan_bits}
use Rattle.rims.proofs.FirstLaws.{apart_none, started-short, started-long, started-no, started-yes}
use Rattle.rims.proofs.thresholds.fill_thresholds.Goals as goal

pub float_from_bits-w : goal.float_from_bits-w
float_from_bits-w c = no_nan_bits 1 (omega arith)

pub returns-else-fill_firsts : goal.returns-else-fill_firsts
returns-else-fill_firsts c = started-no c.args.g c.args.w.now _ c.if-w-lt17152.false c.fill_firsts.ensures.0

pub returns-else-is_tame : goal.returns-else-is_tame
returns-else-is_tame c = started-no c.args.g c.args.w.now _ c.if-w-lt17152.false (apart_none 8193 12289 _)
