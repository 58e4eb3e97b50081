-- `field::squares::near_squares` meets its contract. Assumes nothing.
use native.Mathlib.Omega.{arith}
use Rattle.field.proofs.RoundLaws.{wide-cells}
use Rattle.field.proofs.SquareLaws.{near-is}
use Rattle.field.proofs.squares.near_squares.Goals as goal

pub squares-requires : goal.squares-requires
squares-requires c = let n = c.cells-n.ensures in record { sides = c.requires.sides; lo_lt_hi = (c.requires.lo_lt_hi, c.requires.marked_rows.rows.high); nx_in_bounds = omega (arith, n, c.dirty-a.ensures, c.requires.nx_in_bounds); nx_in_bounds_2 = omega (arith, n, c.near-c.ensures, c.requires.nx_in_bounds_2, wide-cells _ c.requires.sides) }

pub returns : goal.returns
returns c = near-is _ c.requires.sides _ _ _ c.requires.lo_lt_hi c.requires.nx_in_bounds_2 c.requires.marked_rows _ _ _ _ c.cells-n.ensures c.dirty-a.ensures c.near-c.ensures c.squares.ensures
