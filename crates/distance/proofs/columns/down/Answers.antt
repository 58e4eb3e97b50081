-- `distance::columns::down` meets its contract. The invariant: the cells before k are done. Assumes nothing.
use mathlib.Core.Path.{refl, ◌∙◌}
use native.Mathlib.Omega.{arith}
use lib.ListN.{length-set}
use Rattle.distance.proofs.NumberLaws.{one-row}
use Rattle.distance.proofs.ColumnLaws.{down-same, step_down}
use Rattle.distance.proofs.columns.down.Goals as goal

pub loop-k-preserved : goal.loop-k-preserved
loop-k-preserved c = let l = c.loop-k in
    record {
      high = omega arith;
      long = length-set l.work l.k _ ∙ l.invariant.long;
      down = rw c.from_above.ensures (step_down _ _ _ _ _ _ l.invariant.down (omega arith) c.args.ny (omega arith) (omega arith) (omega arith));
      low = omega arith;
    }

pub returns : goal.returns
returns c = down-same (omega (arith, one-row c.args.nx c.args.ny c.requires.map_sides.row)) c.loop-k.invariant.down
