-- `filling::centres::centres` meets its contract. The invariant: the columns so far have their x. Assumes nothing.
use Rattle.filling.specs.Columns.{column_x}
use Rattle.filling.proofs.CentreLaws.{centring_none, centring_more, centring_end}
use Rattle.filling.proofs.centres.centres.Goals as goal

pub loop-i-preserved : goal.loop-i-preserved
unfolding column_x
loop-i-preserved c = centring_more _ _ _ _ _ c.loop-i.invariant c.loop-i-test.true (rw c.float_of.ensures)
