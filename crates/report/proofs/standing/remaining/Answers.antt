-- `report::standing::remaining` meets its contract. Assumes nothing.
use native.Mathlib.Omega.{arith}
use Rattle.loops.proofs.LoopLaws.{going_none, going_more, going_end}
use Rattle.report.specs.Report.{remaining_of}
use Rattle.report.proofs.StandingLaws.{going_few}
use Rattle.report.proofs.standing.remaining.Goals as goal

pub loop-k-init : goal.loop-k-init
loop-k-init c = going_none _ _ _ _

pub bounds-map-k : goal.bounds-map-k
bounds-map-k c = c.loop-k-test.true

pub bounds-reachable-k : goal.bounds-reachable-k
bounds-reachable-k c = omega (arith, c.loop-k-test.true, c.requires)

pub add_cell-t-requires : goal.add_cell-t-requires
add_cell-t-requires c = let s = c.args in omega (arith, going_few s.map.now s.reachable.now c.loop-k.t c.loop-k.k c.loop-k.invariant, c.loop-k-test.true)

pub overflow_step-k : goal.overflow_step-k
overflow_step-k c = omega (arith, c.loop-k-test.true)

pub loop-k-smaller : goal.loop-k-smaller
loop-k-smaller c = omega (arith, c.loop-k-test.true)

pub loop-k-preserved : goal.loop-k-preserved
loop-k-preserved c = going_more _ _ _ _ _ _ _ c.loop-k.invariant c.loop-k-test.true c.add_cell-t.ensures

pub returns : goal.returns
unfolding remaining_of
returns c = going_end _ _ _ _ _ _ c.loop-k.invariant c.loop-k-test.false
