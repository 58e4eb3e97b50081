-- `field::squares::stock_squares` meets its contract. Assumes nothing.
use native.Mathlib.Omega.{arith}
use Rattle.field.proofs.BandLaws.{wide_rows, wide-some}
use Rattle.field.proofs.RoundLaws.{wide-cells}
use Rattle.field.proofs.SquareLaws.{stock-is}
use Rattle.field.proofs.squares.stock_squares.Goals as goal

pub squares-requires : goal.squares-requires
squares-requires c = let o = c.requires.lo_lt_hi in
    let w = c.widen-wide.ensures in record { sides = c.requires.sides; lo_lt_hi = (wide-some _ _ _ _ w (omega (arith, o.0)) o.1 o.0, (wide_rows _ _ _ _ w (omega (arith, o.0)) o.1).high); nx_in_bounds = omega (arith, c.requires.setup_in_bounds); nx_in_bounds_2 = omega (arith, c.requires.setup_in_bounds_2, wide-cells _ c.requires.sides) }

pub returns : goal.returns
returns c = stock-is c.args.g c.requires.sides _ _ _ c.requires.lo_lt_hi.0 c.requires.lo_lt_hi.1 c.requires.setup_in_bounds_2 _ c.margin-m.ensures _ c.widen-wide.ensures _ c.squares.ensures
