-- `distance::rows::all` meets its contract. The invariant: the rows before j are done. Assumes nothing.
use mathlib.Core.Path.{refl, ◌∙◌}
use Prim.Native.Nat.{◌≤◌, ◌+◌, ◌*◌}
use native.Mathlib.Omega.{arith}
use Rattle.loops.proofs.CellLaws.{row_below}
use Rattle.distance.proofs.RowLaws.{rows_none, rows_more, rows_same}
use Rattle.distance.proofs.rows.all.Goals as goal
use Rattle.distance.proofs.rows.all.Goals.{In-loop-j}

pub loop-j-preserved : goal.loop-j-preserved
loop-j-preserved c = let i = c.loop-j.invariant in
    let t = c.loop-j-test.true in
    let r = c.row in
    record {
      high = omega arith;
      long = r.auto.work ∙ i.long;
      rows = rows_more _ _ _ _ _ _ _ i.rows t c.requires.map_sides.wide c.requires.map_sides.high c.requires.nx_bound r.ensures;
    }
