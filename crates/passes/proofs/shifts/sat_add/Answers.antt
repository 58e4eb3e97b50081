-- `passes::shifts::sat_add` meets its contract. Assumes nothing.
use native.Mathlib.Omega.{arith}
use Rattle.passes.specs.Shifts.{sat_add}
use Rattle.passes.proofs.shifts.sat_add.Goals as goal

pub returns-then-b-a : goal.returns-then-b-a
unfolding sat_add
returns-then-b-a c = omega arith

pub returns : goal.returns
unfolding sat_add
returns c = omega arith
