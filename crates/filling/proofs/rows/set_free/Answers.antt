-- `filling::rows::set_free` meets its contract. The invariant: the map is what the turns so far leave. Assumes nothing.
use mathlib.Core.Path.{◌≡◌, ap, ◌∙◌}
use native.Mathlib.Omega.{arith}
use lib.ListN.{length}
use Rattle.loops.proofs.LoopLaws.{going_none, going_more, going_end}
use Rattle.filling.proofs.ColumnLaws.{free-long, free_not, free-yes}
use Rattle.filling.proofs.rows.set_free.Goals as goal
use Rattle.filling.proofs.rows.set_free.Goals.{else-cover-i-eq1, then-cover-i-eq1}
use Rattle.filling.proofs.rows.set_free.Goals.{At-loop-i}

pub loop-i-init : goal.loop-i-init
loop-i-init c = going_none _ _ _ _

pub loop-i-preserved : goal.loop-i-preserved
loop-i-preserved c = let l = c.loop-i in
    let s = c.args in
    going_more _ _ _ _ _ _ _ l.invariant c.loop-i-test.true
    (elim c.if-cover-i-eq1.branch [ then-cover-i-eq1 w ↦ free_not s.base s.cover.now l.i l.map _ w.if-cover-i-eq1.true w.map-is | else-cover-i-eq1 w ↦ free-yes s.base s.cover.now l.i l.map _ w.if-cover-i-eq1.false w.map-is ])

pub returns : goal.returns
returns c = going_end _ _ _ _ _ _ c.loop-i.invariant c.loop-i-test.false
