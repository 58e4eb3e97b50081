-- `passes::guide::walk` meets its contract. The invariant: the points so far are laid. Assumes nothing.
use mathlib.Core.Path.{◌≡◌, refl}
use Prim.Native.Nat.{◌+◌, ◌*◌, ◌<◌}
use lib.ListN.{length, length-set}
use native.Mathlib.Omega.{arith}
use Rattle.passes.proofs.LayLaws.{walking_none, walking_long, walking_in, walking_more, walking_end}
use Rattle.passes.proofs.guide.walk.Goals as goal
use Rattle.passes.proofs.guide.walk.Goals.{After-round_to-j}

-- the places of the turn: both points lie in the slice, whose length is as it was
turn_in : (c : After-round_to-j) → let a = c.args in (a.from + 2 * c.round_to-j.result + 1 < a.to) × (a.to + 2 * c.loop-i.i + 1 < length c.loop-i.w)
turn_in c =
    walking_in _ _ _ _ _ _ c.requires _ _ c.loop-i.invariant.0 c.loop-i.invariant.1 c.loop-i-test.true _ c.round_to-j.ensures

turn-long : (c : After-round_to-j) → length c.loop-i.w ≡ length c.args.w.now
turn-long c =
    walking_long _ _ _ _ _ _ c.requires _ _ c.loop-i.invariant.0 c.loop-i.invariant.1

pub loop-i-init : goal.loop-i-init
loop-i-init c = (walking_none _ _ _ _ _ _ c.requires, omega arith)

pub overflow_add-start : goal.overflow_add-start
overflow_add-start c = omega (arith, c.loop-i-test.true, c.requires.round, c.well_formed)

pub overflow_mul-a : goal.overflow_mul-a
overflow_mul-a c = omega (arith, (turn_in ((goal.at.overflow_mul-a c).After-round_to-j)).0, (turn_in ((goal.at.overflow_mul-a c).After-round_to-j)).1, turn-long ((goal.at.overflow_mul-a c).After-round_to-j), c.well_formed)

pub overflow_add-a : goal.overflow_add-a
overflow_add-a c = omega (arith, (turn_in ((goal.at.overflow_add-a c).After-round_to-j)).0, (turn_in ((goal.at.overflow_add-a c).After-round_to-j)).1, turn-long ((goal.at.overflow_add-a c).After-round_to-j), c.well_formed)

pub offset_bounds-w-a : goal.offset_bounds-w-a
offset_bounds-w-a c = omega (arith, (turn_in ((goal.at.offset_bounds-w-a c).After-round_to-j)).0, (turn_in ((goal.at.offset_bounds-w-a c).After-round_to-j)).1, turn-long ((goal.at.offset_bounds-w-a c).After-round_to-j), c.well_formed)

pub bounds-w-a : goal.bounds-w-a
bounds-w-a c = omega (arith, (turn_in (goal.at.bounds-w-a c).After-round_to-j).0, (turn_in (goal.at.bounds-w-a c).After-round_to-j).1, turn-long (goal.at.bounds-w-a c).After-round_to-j, c.well_formed)

pub overflow_add-y : goal.overflow_add-y
overflow_add-y c = omega (arith, (turn_in (goal.at.overflow_add-y c).After-round_to-j).0, (turn_in (goal.at.overflow_add-y c).After-round_to-j).1, turn-long (goal.at.overflow_add-y c).After-round_to-j, c.well_formed)

pub offset_bounds-w-a-in-loop-i : goal.offset_bounds-w-a-in-loop-i
offset_bounds-w-a-in-loop-i c = omega (arith, (turn_in (goal.at.offset_bounds-w-a-in-loop-i c).After-round_to-j).0, (turn_in (goal.at.offset_bounds-w-a-in-loop-i c).After-round_to-j).1, turn-long (goal.at.offset_bounds-w-a-in-loop-i c).After-round_to-j, c.well_formed)

pub bounds-w-a-in-loop-i : goal.bounds-w-a-in-loop-i
bounds-w-a-in-loop-i c = omega (arith, (turn_in (goal.at.bounds-w-a-in-loop-i c).After-round_to-j).0, (turn_in (goal.at.bounds-w-a-in-loop-i c).After-round_to-j).1, turn-long (goal.at.bounds-w-a-in-loop-i c).After-round_to-j, c.well_formed)

pub overflow_mul-b : goal.overflow_mul-b
overflow_mul-b c = omega (arith, (turn_in (goal.at.overflow_mul-b c).After-round_to-j).0, (turn_in (goal.at.overflow_mul-b c).After-round_to-j).1, turn-long (goal.at.overflow_mul-b c).After-round_to-j, c.well_formed)

pub overflow_add-b : goal.overflow_add-b
overflow_add-b c = omega (arith, (turn_in (goal.at.overflow_add-b c).After-round_to-j).0, (turn_in (goal.at.overflow_add-b c).After-round_to-j).1, turn-long (goal.at.overflow_add-b c).After-round_to-j, c.well_formed)

pub offset_bounds-w-b : goal.offset_bounds-w-b
offset_bounds-w-b c = omega (arith, (turn_in (goal.at.offset_bounds-w-b c).After-round_to-j).0, (turn_in (goal.at.offset_bounds-w-b c).After-round_to-j).1, turn-long (goal.at.offset_bounds-w-b c).After-round_to-j, c.well_formed)

pub bounds-w-b : goal.bounds-w-b
bounds-w-b c = omega (arith, (turn_in (goal.at.bounds-w-b c).After-round_to-j).0, (turn_in (goal.at.bounds-w-b c).After-round_to-j).1, turn-long (goal.at.bounds-w-b c).After-round_to-j, c.well_formed)

pub overflow_add-w : goal.overflow_add-w
overflow_add-w c = omega (arith, (turn_in (goal.at.overflow_add-w c).After-round_to-j).0, (turn_in (goal.at.overflow_add-w c).After-round_to-j).1, turn-long (goal.at.overflow_add-w c).After-round_to-j, c.well_formed)

pub offset_bounds-w-b-in-loop-i : goal.offset_bounds-w-b-in-loop-i
offset_bounds-w-b-in-loop-i c = omega (arith, (turn_in (goal.at.offset_bounds-w-b-in-loop-i c).After-round_to-j).0, (turn_in (goal.at.offset_bounds-w-b-in-loop-i c).After-round_to-j).1, turn-long (goal.at.offset_bounds-w-b-in-loop-i c).After-round_to-j, c.well_formed)

pub bounds-w-b-in-loop-i : goal.bounds-w-b-in-loop-i
bounds-w-b-in-loop-i c = simp length-set (turn_in (goal.at.bounds-w-b-in-loop-i c).After-round_to-j).1

pub loop-i-preserved : goal.loop-i-preserved
loop-i-preserved c = (walking_more _ _ _ _ _ _ c.requires _ _ c.loop-i.invariant.0 c.loop-i.invariant.1 c.loop-i-test.true _ c.round_to-j.ensures _ refl, omega (arith, c.loop-i-test.true))

pub shape_of-w : goal.shape_of-w
shape_of-w c = walking_long _ _ _ _ _ _ c.requires _ _ c.loop-i.invariant.0 c.loop-i.invariant.1

pub returns : goal.returns
returns c = walking_end _ _ _ _ _ _ c.requires _ _ c.loop-i.invariant.0 c.loop-i.invariant.1 c.loop-i-test.false
