-- `filling::rows::set_shown` meets its contract. The invariant: the map is what the turns so far leave, and the bytes before i are 0. Assumes nothing.
use mathlib.Core.Path.{◌≡◌, ap, ◌∙◌}
use native.Mathlib.Omega.{arith}
use lib.ListN.{length}
use Rattle.loops.proofs.LoopLaws.{going_none, going_more, going_end}
use Rattle.filling.proofs.ColumnLaws.{wiped_none, wiped_more, wiped_end, shown_yes, shown_not, shown_long}
use Rattle.filling.proofs.rows.set_shown.Goals as goal
use Rattle.filling.proofs.rows.set_shown.Goals.{else-row-i-eq1, then-row-i-eq1}
use Rattle.filling.proofs.rows.set_shown.Goals.{At-loop-i}

pub loop-i-init : goal.loop-i-init
loop-i-init c = (going_none _ _ _ _, wiped_none _)

pub loop-i-preserved : goal.loop-i-preserved
loop-i-preserved c = let l = c.loop-i in
    let s = c.args in
    let e = l.invariant.1.rest l.i (omega arith) in (
      going_more _ _ _ _ _ _ _ l.invariant.0 c.loop-i-test.true
          (elim c.if-row-i-eq1.branch [ then-row-i-eq1 w ↦ shown_yes s.base s.row.now l.row l.i e l.map _ w.if-row-i-eq1.true w.map-is | else-row-i-eq1 w ↦ shown_not s.base s.row.now l.row l.i e l.map _ w.if-row-i-eq1.false w.map-is ]),
      wiped_more _ _ _ l.invariant.1 (omega arith),
    )
