-- `spans::crescent::clear_rows` meets its contract. The invariant: the map, the log and the count are what the rows so far leave. Assumes nothing.
use Prim.Native.Nat.{◌<◌}
use native.Mathlib.Omega.{arith}
use Rattle.raster.specs.Log.{st, clear_after}
use Rattle.loops.proofs.LoopLaws.{going_none, going_more, going_end}
use Rattle.raster.proofs.RowLaws.{last_within}
use Rattle.raster.proofs.SweepLaws.{crescent-is}
use Rattle.raster.proofs.LogLaws.{Kept, ready-kept, going_rows, le_same}
use Rattle.spans.proofs.crescent.clear_rows.Goals as goal
use Rattle.spans.proofs.crescent.clear_rows.Goals.{After-rows_of-first, At-loop-y, In-loop-y}

last_row : (c : After-rows_of-first) → c.rows_of-first.result.1 < c.args.g.ny
last_row c = last_within _ _ _ _ c.rows_of-first.ensures c.requires.over.sides.high

-- what clearing keeps, at the loop's head
kept : (c : At-loop-y) → let s = c.args in Kept (st s.map.now s.log.now s.count) (st c.loop-y.map c.loop-y.log c.loop-y.n)
kept c = going_rows _ _ _ _ _ _ _ _ _ c.requires.ready c.loop-y.invariant

row : (c : In-loop-y) → c.loop-y.y < c.args.g.ny
row c = omega (arith, c.loop-y-test.true, (let told : c.rows_of-first.result.1 < c.args.g.ny = last_within _ _ _ _ c.rows_of-first.ensures c.requires.over.sides.high in told))

pub overflow_add-y-end : goal.overflow_add-y-end
overflow_add-y-end c = omega (arith, last_row (goal.at.overflow_add-y-end c).After-rows_of-first)

pub loop-y-init : goal.loop-y-init
loop-y-init c = going_none _ _ _ _

pub pass_row-n-requires : goal.pass_row-n-requires
pass_row-n-requires c = let p = c.requires in record { over = record { sides = p.over.sides; long = le_same p.over.long (kept (goal.at.pass_row-n-requires c).At-loop-y).cells-long }; ready = ready-kept _ _ p.ready (kept (goal.at.pass_row-n-requires c).At-loop-y); spanning = p.spanning; placed = p.placed; placed_2 = p.placed_2; y_lt_ny = row (goal.at.pass_row-n-requires c).In-loop-y }

pub loop-y-preserved : goal.loop-y-preserved
loop-y-preserved c = going_more _ _ _ _ _ _ _ c.loop-y.invariant c.loop-y-test.true c.pass_row-n.ensures

pub returns : goal.returns
unfolding clear_after
returns c = crescent-is _ _ _ _ _ _ _ _ c.rows_of-first.ensures (going_end _ _ _ _ _ _ c.loop-y.invariant c.loop-y-test.false)
