-- `field::squares::stock_words` meets its contract. Assumes nothing.
use Rattle.field.proofs.SquareLaws.{stocked_rows}
use Rattle.field.proofs.squares.stock_words.Goals as goal

pub shade_stock-requires : goal.shade_stock-requires
shade_stock-requires c = let w = c.requires.rows_of in record { sides = c.requires.sides; rows_of = (w.0, w.1); setup_in_bounds = c.requires.setup_in_bounds; far = c.in-Some-Some.ensures; deep = c.in-Some-Some.ensures' }

pub stock_squares-requires : goal.stock_squares-requires
stock_squares-requires c = let w = c.requires.rows_of in
    record { sides = c.requires.sides; lo_lt_hi = (w.2, w.0.high); setup_in_bounds = c.requires.setup_in_bounds.0; setup_in_bounds_2 = c.requires.setup_in_bounds.1 }

pub returns : goal.returns
returns c = stocked_rows _ _ _ _ _ c.requires.rows_of.1 c.stock_squares.ensures
