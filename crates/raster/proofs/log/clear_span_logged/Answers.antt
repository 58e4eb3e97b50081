-- `raster::log::clear_span_logged` meets its contract. The invariant: the map, the log and the count are what the turns so far leave. Assumes nothing.
use mathlib.Core.Path.{ap, ◌∙◌}
use Prim.Native.Nat.{ℕ, ◌<◌}
use native.Mathlib.Omega.{arith}
use lib.ListN.{length, set}
use Rattle.loops.proofs.LoopLaws.{going_none, going_more, going_end}
use Rattle.raster.proofs.SweepLaws.{inside_mono, cells-lie, span-cells}
use Rattle.raster.proofs.LogLaws.{room-left, st_eq, cell-taken, cell-left, going_kept}
use Rattle.raster.proofs.log.clear_span_logged.Goals as goal
use Rattle.raster.proofs.log.clear_span_logged.Goals.{then-map-k-eq1, else-map-k-eq1, In-loop-k, Then-map-k-eq1}

-- a turn's cell is one of the map's
here : (c : In-loop-k) → c.loop-k.k < length c.loop-k.map
here c = omega (arith, c.loop-k-test.true, c.loop-k.auto.map, cells-lie _ _ _ _ c.cells_of-from.ensures c.requires.inside)

room : (c : Then-map-k-eq1) → c.loop-k.n < length c.loop-k.log
room c = room-left _ _ c.requires.ready (going_kept _ _ _ _ _ c.requires.ready c.loop-k.invariant) _ c.if-map-k-eq1.true

pub loop-k-init : goal.loop-k-init
loop-k-init c = going_none _ _ _ _

pub bounds-map-k : goal.bounds-map-k
bounds-map-k c = omega (arith, here (goal.at.bounds-map-k c).In-loop-k)

pub offset_bounds-log-n : goal.offset_bounds-log-n
offset_bounds-log-n c = omega (arith, room (goal.at.offset_bounds-log-n c).Then-map-k-eq1, c.loop-k.auto.log)

pub bounds-log-n : goal.bounds-log-n
bounds-log-n c = room (goal.at.bounds-log-n c).Then-map-k-eq1

pub overflow_add-n : goal.overflow_add-n
overflow_add-n c = omega (arith, room (goal.at.overflow_add-n c).Then-map-k-eq1, c.loop-k.auto.log)

pub loop-k-preserved : goal.loop-k-preserved
loop-k-preserved c = going_more _ _ _ _ _ _ _ c.loop-k.invariant c.loop-k-test.true
    (elim c.if-map-k-eq1.branch [ then-map-k-eq1 w ↦ st_eq w.map-is (w.log-is ∙ ap (λ (v : ℕ). set c.loop-k.log c.loop-k.n v) (w.number_of.ensures ∙ w.cell_at.ensures)) w.n-is ∙ cell-taken _ _ w.if-map-k-eq1.true | else-map-k-eq1 w ↦ st_eq w.map-is w.log-is w.n-is ∙ cell-left _ _ w.if-map-k-eq1.false ])

pub returns : goal.returns
returns c = span-cells _ _ _ _ _ _ c.cells_of-from.ensures (going_end _ _ _ _ _ _ c.loop-k.invariant c.loop-k-test.false)
