-- `distance::columns::first` meets its contract. The invariant: the cells before k are done. Assumes nothing.
use mathlib.Core.Path.{◌≡◌, refl, ◌∙◌}
use native.Mathlib.Omega.{arith}
use lib.ListN.{length, take, length-set}
use lib.Seq.{get_or-take, length-take-le}
use Rattle.distance.proofs.ColumnLaws.{down-none, down-same, step-first}
use Rattle.distance.proofs.columns.first.Goals as goal
use Rattle.distance.proofs.columns.first.Goals.{In-loop-k}

row-long : (c : In-loop-k) → length (take c.args.nx c.args.marks.now) ≡ c.args.nx
row-long c = length-take-le c.args.nx c.args.marks.now c.requires.nx_in_bounds

pub loop-k-preserved : goal.loop-k-preserved
loop-k-preserved c = let l = c.loop-k in
    let long = row-long (goal.at.loop-k-preserved c).In-loop-k in
    let byte = get_or-take c.args.nx c.args.marks.now l.k 0 (omega (arith, long)) in
    record {
      high = omega (arith, long);
      long = length-set l.work l.k _ ∙ l.invariant.long;
      down = rw (c.from_above.ensures, byte) (step-first _ _ _ _ _ _ l.invariant.down (omega (arith, long)) (omega (arith, long)));
    }
