-- `filling::region::fill_cells` meets its contract. The invariant: the map is what the cells so far leave. Assumes nothing.
use mathlib.Core.Path.{◌≡◌, ap, ◌∙◌}
use Prim.Native.Nat.{◌+◌, ◌*◌, ◌<◌}
use native.Mathlib.Omega.{arith}
use lib.ListN.{length}
use Rattle.loops.proofs.CellLaws.{row_below}
use Rattle.loops.proofs.LoopLaws.{going_none, going_more, going_end}
use Rattle.filling.specs.Fill.{fill_row}
use Rattle.filling.proofs.FillLaws.{cells-long, cell_in, cell_out}
use Rattle.filling.proofs.region.fill_cells.Goals as goal
use Rattle.filling.proofs.region.fill_cells.Goals.{else-contains, then-contains}
use Rattle.filling.proofs.region.fill_cells.Goals.{At-loop-i, In-loop-i}

pub loop-i-init : goal.loop-i-init
loop-i-init c = going_none _ _ _ _

pub loop-i-preserved : goal.loop-i-preserved
loop-i-preserved c = let s = c.args in
    let l = c.loop-i in
    let p = c.center in
    let t = c.contains in
    going_more _ _ _ _ _ _ _ l.invariant c.loop-i-test.true
    (elim c.if-contains.branch [ then-contains w ↦ w.map-is ∙ cell_in s.g s.vs.now s.lens.now s.region s.j l.i p.result p.ensures t.result t.ensures l.map w.if-contains.true | else-contains w ↦ w.map-is ∙ cell_out s.g s.vs.now s.lens.now s.region s.j l.i p.result p.ensures t.result t.ensures l.map w.if-contains.false ])

pub returns : goal.returns
unfolding fill_row
returns c = going_end _ _ _ _ _ _ c.loop-i.invariant c.loop-i-test.false
