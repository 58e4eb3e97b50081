-- `planner::outcome::threes` meets its contract. Assumes nothing.
use Rattle.planner.specs.Planner.{threes}
use native.Mathlib.Omega.{arith}
use Rattle.planner.proofs.outcome.threes.Goals as goal

pub returns-then-k-gt-MAX_LISTED : goal.returns-then-k-gt-MAX_LISTED
unfolding threes
returns-then-k-gt-MAX_LISTED c = omega arith

pub returns : goal.returns
unfolding threes
returns c = omega arith
