-- `filling::columns::turn` meets its contract. The invariant: the bytes before i are turned round. Assumes nothing.
use native.Mathlib.Omega.{arith}
use Rattle.filling.proofs.ColumnLaws.{turned_none, turned_more, turned-end, flip_one, flip_other}
use Rattle.filling.proofs.columns.turn.Goals as goal
use Rattle.filling.proofs.columns.turn.Goals.{else-row-i-eq1, then-row-i-eq1}

pub loop-i-init : goal.loop-i-init
loop-i-init c = (omega arith, omega arith, turned_none _ _)

pub loop-i-preserved : goal.loop-i-preserved
loop-i-preserved c = let l = c.loop-i in
    (omega arith, omega arith, turned_more _ _ _ _ _ l.invariant.2 l.invariant.0 (omega arith) (elim c.if-row-i-eq1.branch [ then-row-i-eq1 w ↦ flip_one _ _ w.if-row-i-eq1.true w.row-is | else-row-i-eq1 w ↦ flip_other _ _ w.if-row-i-eq1.false w.row-is ]))

pub returns : goal.returns
returns c = turned-end _ _ _ _ _ c.loop-i.invariant.2 (omega arith) (omega arith)
