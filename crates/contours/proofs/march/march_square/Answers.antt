-- `contours::march::march_square` meets its contract. Assumes nothing.
use Rattle.contours.proofs.MarchLaws.{on-square, square-none, square-some}
use Rattle.contours.proofs.march.march_square.Goals as goal

pub returns-then-has_nan : goal.returns-then-has_nan
returns-then-has_nan c = square-none _ _ _ _ _ _ _ _ c.square_at-q.ensures _ c.has_nan.ensures c.if-has_nan.true

pub push_code-requires : goal.push_code-requires
push_code-requires c = record { over = c.requires.over; in_grid = on-square _ _ _ _ _ c.requires.in_grid c.square_at-q.ensures; n_in_bounds = c.requires.n_in_bounds }

pub returns : goal.returns
returns c = square-some _ _ _ _ _ _ _ _ c.square_at-q.ensures _ c.has_nan.ensures c.if-has_nan.false _ _ _ c.code_of-code.ensures c.push_code.ensures
