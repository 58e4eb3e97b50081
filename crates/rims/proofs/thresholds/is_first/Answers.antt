-- `rims::thresholds::is_first` meets its contract. Assumes nothing.
use native.Mathlib.Omega.{arith}
use Rattle.loops.proofs.Cases.{both}
use Rattle.numbers.proofs.RootLaws.{no_nan_bits}
use Rattle.rims.proofs.FirstLaws.{first-is}
use Rattle.rims.proofs.thresholds.is_first.Goals as goal

pub float_from_bits-before : goal.float_from_bits-before
float_from_bits-before c = no_nan_bits _ (omega (arith, c.requires.b_nonzero))

pub float_from_bits-at : goal.float_from_bits-at
float_from_bits-at c = no_nan_bits _ c.requires.b_nonzero.1

pub returns : goal.returns
returns c = λ t.
    let p = c.requires in
    let w = both _ _ t in
    first-is c.args.cell (record { finite = p.cell_value.0; positive = p.cell_value.1 }) c.args.m c.args.b p.b_nonzero.0 p.b_nonzero.1 _ c.float_of-want.ensures w.0 w.1
