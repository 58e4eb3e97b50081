-- `contours::march::push_code` meets its contract. Assumes nothing.
use Rattle.std.proofs.Common.{arith}
use Rattle.contours.proofs.JoinLaws.{saddle_joins, cut_joins}
use Rattle.contours.proofs.MarchLaws.{code_none, code_two, code_one}
use Rattle.contours.proofs.march.push_code.Goals as goal

pub returns-then-code : goal.returns-then-code
returns-then-code c = code_none _ _ _ _ _ _ _ c.if-code.true

pub push_saddle-requires : goal.push_saddle-requires
push_saddle-requires c = record { over = c.requires.over; in_grid = c.requires.in_grid; joins = saddle_joins _ _ _ _ _ _ _ c.requires.in_grid c.edges_of-e.ensures c.saddle_of-s.ensures; n_in_bounds = c.requires.n_in_bounds }

pub returns-then-code-2 : goal.returns-then-code-2
returns-then-code-2 c = code_two _ _ _ _ _ _ _ _ c.edges_of-e.ensures c.if-code.false _ _ _ c.if-code-2.true c.joined.ensures c.saddle_of-s.ensures c.requires.n_in_bounds c.push_saddle.ensures

pub push-requires : goal.push-requires
push-requires c = record { over = c.requires.over; in_grid = c.requires.in_grid; joins = cut_joins _ _ _ _ _ _ c.requires.in_grid c.edges_of-e.ensures c.cut-s.ensures; n_in_bounds = omega (arith, c.requires.n_in_bounds) }

pub returns : goal.returns
returns c = code_one _ _ _ _ _ _ _ _ c.edges_of-e.ensures c.if-code.false _ _ c.if-code-2.false c.cut-s.ensures c.requires.n_in_bounds c.push.ensures
